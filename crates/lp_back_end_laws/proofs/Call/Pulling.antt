-- A state's function begins: it is handed the lookahead, or it pulls it.
use Rattle.std.proofs.Common.{◌≡◌, ℕ, ◌+◌, ◌-◌, true, false, List, [], ◌∷◌, ◌++◌, length, Option, Some, slice_get, refl, sym, ap, ◌∙◌, arith, codes, length-append}
use Rattle.std.specs.Prelude.{zero, suc, ◌^◌, not, replicate}
use Rattle.std.specs.Option.{unwrap_or}
use Rattle.std.specs.Str.{bytes_eq}
use Rattle.std.proofs.lemmas.List.{length-replicate}
use Rattle.lp_repr.specs.declared.lr1.Lr1State.{Lr1State}
use Rattle.lp_repr.specs.declared.repr.Grammar.{Grammar}
use Rattle.lp_repr.specs.declared.values.RunItem.{RunItem}
use Rattle.lp_driver.specs.Values.{Spanned, Text, Token}
use Rattle.lp_core.specs.declared.expr.Function.{Function}
use Rattle.lp_core.specs.declared.value.StateType.{StateType}
use Rattle.lp_core.specs.declared.value.Tag.TheVariants as tag
use Rattle.lp_core.specs.Datum.{Cell, Unset}
use Rattle.lp_core.specs.Flow.{State}
use Rattle.lp_core.specs.Reading.{empty}
use Rattle.lp_core.specs.Store.{Program}
use Rattle.lp_core.specs.Val.{Val, Plain}
use Rattle.lp_maker.specs.Making.{parameters}
use Rattle.lp_maker.specs.Slots.{Names, no_names, after_slots}
use Rattle.lp_ascent_bodies.specs.AscentStates.{Stating}
use Rattle.lp_ascent.specs.Slots.{count_of, has_lookahead}
use Rattle.lp_ascent.specs.StateLines.{new_cells}
use Rattle.lp_ascent_bodies.specs.AscentStarts.{after_token, lookahead_slot, next_token, token_line}
use Rattle.lp_code_laws.specs.Ends.Calls.{begun}
use Rattle.lp_code_laws.specs.Ends.Ends.{Moment, moment, Eval, Giving, EndsIn}
use Rattle.lp_code_laws.proofs.Ends.Lists.{get_same, length_set}
use Rattle.lp_code_laws.proofs.Ends.Tags.{slot_is}
use Rattle.lp_code_laws.specs.Slots.Shows.{HasRoom, Keeps}
use Rattle.lp_code_laws.proofs.Slots.Names.{named_this, shows_other}
use Rattle.lp_code_laws.proofs.Slots.Slots.{get_within}
use Rattle.lp_code_laws.proofs.Printed.Lines.{no_lines}
use Rattle.lp_question_laws.proofs.Reductions.Keys.{symbol_keys}
use Rattle.lp_question_laws.proofs.Reductions.Parameters.{each_next}
use Rattle.lp_back_end_laws.specs.Call.Standing.{look_val}
use Rattle.lp_back_end_laws.specs.Call.Turns.{ShowsFrame}
use Rattle.lp_back_end_laws.proofs.Call.Arriving.{FirstRan}
use Rattle.lp_back_end_laws.proofs.Call.FirstNames.{frame_shown, keys_apart, look_shows}
use Rattle.lp_back_end_laws.proofs.Call.FrameNames.{frame_but}
use Rattle.lp_back_end_laws.proofs.Call.FunctionArms.{many_at}
use Rattle.lp_back_end_laws.proofs.Call.FunctionCode.{maker_of, slots_of, header_of, function_read}
use Rattle.lp_back_end_laws.proofs.Call.RowsBefore.{match_begun, begin_at, first_names, match_rows, names_are, names_within, slots_few, cells_next}
use Rattle.lp_back_end_laws.proofs.Call.Setting.{Setting}
use Rattle.lp_back_end_laws.proofs.Call.StateBodies.{token_ran, token_others}
use Rattle.lp_back_end_laws.proofs.Call.StateHeaders.{look_keys, own_keys}

-- the values that a state's function is handed
abbrev pub handed_vals : List Val → ℕ → List Val → List Val → List Val
handed_vals given list look slots = given ++ ((empty tag.Tuple ∷ Plain (Cell list) ∷ look) ++ slots)

symbols_many : (k n : ℕ) → length (symbol_keys k n) ≡ n
symbols_many k zero = refl
symbols_many k (suc n) = ap suc (symbols_many (k + 1) n)

-- a name that is none of the result and the lookahead
abbrev IsPlain : List ℕ → Type 0
IsPlain key = (bytes_eq (codes "~result") key ≡ false) × (bytes_eq (codes "~lookahead") key ≡ false)

module _ {g : Grammar} {start : ℕ} {states : List Lr1State} {params : List Text} {failing : List ℕ} {items : List RunItem} {p : Program} {keys : List (List ℕ)} {given : List Val} {function action variant : ℕ → ℕ} {kind : StateType} {expected most cost : ℕ}
    (setting : Setting g start states params failing items p keys given function action variant kind expected most cost) (q : ℕ) (s : Lr1State) (there : slice_get states q ≡ Some s) (list : ℕ) (slots : List Val) (slots_many : length slots ≡ count_of (slots_of setting q s there)) (st : State) where
  abbrev fn : Function
  fn = function_read setting q s there

  plain_keys : (i : ℕ) (key : List ℕ) → slice_get keys i ≡ Some key → IsPlain key
  plain_keys i key at = (keys_apart g.prefix keys setting.read.keys_plain (codes "result") i key at, keys_apart g.prefix keys setting.read.keys_plain (codes "lookahead") i key at)

  module _ (look : List Val) (looks : length look ≡ length (look_keys (slots_of setting q s there))) where
    abbrev pub begun_at : Moment
    begun_at = begun fn (handed_vals given list look slots) (moment st.store st.calls)

    -- as many as the header has names
    pub vals_many : fn.params ≡ length (handed_vals given list look slots)
    vals_many =
        let l = slots_of setting q s there in
        let names = ap (λ (ns : Names). ns.next) (names_are setting q s there) in
        let next = each_next (keys ++ own_keys l) no_names in
        let front = codes "~tokens" ∷ codes "~states" ∷ look_keys l in
        let head = empty tag.Tuple ∷ Plain (Cell list) ∷ look in
        omega (arith, names, next, length-append keys (own_keys l), length-append front (symbol_keys 0 (count_of l)), symbols_many 0 (count_of l), setting.read.given_many, length-append given (head ++ slots), length-append head slots, looks, slots_many)

    names_first : (parameters (maker_of setting q s there).prefix (header_of setting q s there)).next ≡ (first_names setting q s there).next
    names_first = ap (λ (ns : Names). ns.next) (names_are setting q s there)

    -- there is room for all names
    pub env_many : length begun_at.store.env ≡ many_at setting q s there
    env_many =
        let vs = handed_vals given list look slots in
        let b = (match_begun setting q s there).below in
        let w = names_within setting q s there in
        omega (arith, length-append vs (replicate fn.slots (Plain Unset)), length-replicate fn.slots (Plain Unset), vals_many, names_first, b, w)

    first_shown : ShowsFrame (first_names setting q s there) begun_at.store.env keys given list slots
    first_shown =
        frame_shown g.prefix keys setting.read.keys_plain (slots_of setting q s there) (let few = slots_few setting q s there in omega (arith, few)) given look slots (replicate fn.slots (Plain Unset)) list setting.read.given_many looks slots_many setting.read.given_same setting.read.given_set

    begin_shown : ShowsFrame (begin_at setting q s there).lines.names begun_at.store.env keys given list slots
    begin_shown = frame_but IsPlain plain_keys (refl, refl) (refl, refl) (λ j. (refl, refl)) (λ key v plain h. shows_other (codes "~result") plain.0 h) first_shown

  -- it is handed the lookahead
  pub handed_ran : (look : Option (Spanned Token)) → has_lookahead (slots_of setting q s there) ≡ true → (looks : length (look_val look ∷ []) ≡ length (look_keys (slots_of setting q s there)))
      → (f : FirstRan setting q s there false list slots look (begun_at (look_val look ∷ []) looks)) × (f.count ≡ 0) × (f.moment ≡ begun_at (look_val look ∷ []) looks)
  handed_ran look handed looks =
      let m = begun_at (look_val look ∷ []) looks in
      let first = look_shows g.prefix keys setting.read.keys_plain (slots_of setting q s there) (let few = slots_few setting q s there in omega (arith, few)) given (look_val look ∷ []) slots (replicate fn.slots (Plain Unset)) list setting.read.given_many looks slots_many (look_val look) handed refl in
      let shown = shows_other (codes "~result") refl first in
      (record { count = 0; moment = m; ran = no_lines (begin_at setting q s there).lines.names m; many = env_many (look_val look ∷ []) looks; shown = begin_shown (look_val look ∷ []) looks; look_shown = shown; same_slot = sym (ap (λ o. unwrap_or o (2 ^ 64 - 1)) shown.is) }, refl, refl)

  -- it pulls the lookahead, and no slot below those of the pull changes
  pub pulled_ran : (look : Option (Spanned Token)) (looks : length {A = Val} [] ≡ length (look_keys (slots_of setting q s there))) (handed : not (has_lookahead (slots_of setting q s there)) ≡ true) (j : ℕ) (n : Moment)
      → EndsIn p (Eval (next_token (maker_of setting q s there) (begin_at setting q s there).lines.names)) (begun_at [] looks) j (Giving (look_val look) n) → Keeps (begin_at setting q s there).lines.names.next (begun_at [] looks).store.env n.store.env
      → (f : FirstRan setting q s there true list slots look (begun_at [] looks)) × (f.count ≡ j) × (f.moment ≡ slot_is (lookahead_slot (begin_at setting q s there).lines.names) (look_val look) n)
  pulled_ran look looks handed j n ends keeps =
      let l = (begin_at setting q s there).lines in
      let made = maker_of setting q s there in
      let rows = ap (λ (u : Stating). u.lines.names.next) (match_rows setting q s there true handed) in
      let more = cells_next (new_cells (slots_of setting q s there)) (token_line made l) in
      let within = names_within setting q s there in
      let many = env_many [] looks in
      let room : HasRoom 1 (after_token l.names) n.store.env = record { room = omega (arith, rows, more, within, many, keeps.many) } in
      let slot = lookahead_slot l.names in
      let old = get_within n.store.env slot (omega (arith, room.room)) in (
        record {
          count = j;
          moment = slot_is slot (look_val look) n;
          ran = token_ran made l (no_lines l.names (begun_at [] looks)) (look_val look) n ends room;
          many = length_set n.store.env slot (look_val look) ∙ keeps.many ∙ many;
          shown = frame_but IsPlain plain_keys (refl, refl) (refl, refl) (λ j. (refl, refl)) (λ key v plain h. token_others made l (look_val look) (begun_at [] looks).store.env n.store.env key v keeps plain.1 h) (begin_shown [] looks);
          look_shown = record { slot = slot; is = named_this (codes "~lookahead") slot (after_slots 1 (after_token l.names)); below = omega arith; held = get_same n.store.env slot old.1 };
          same_slot = refl;
        },
        refl,
        refl,
      )
