-- A state's function comes to its match: behind the pull, or where it is handed the lookahead, its lines make the frame's cells.
use Rattle.std.proofs.Common.{◌≡◌, ℕ, ◌<◌, Bool, false, List, ◌++◌, length, Option, Some, None, slice_get, refl, sym, ap, ◌∙◌, subst, arith, codes, decimal}
use Rattle.std.specs.Prelude.{not}
use Rattle.std.specs.Str.{bytes_eq}
use Rattle.lp_repr.specs.declared.lr1.Lr1State.{Lr1State}
use Rattle.lp_repr.specs.declared.repr.Grammar.{Grammar}
use Rattle.lp_repr.specs.declared.values.RunItem.{RunItem}
use Rattle.lp_driver.specs.declared.answers.Expecting.TheVariants.{Trial}
use Rattle.lp_driver.specs.Values.{Spanned, Text, Token}
use Rattle.lp_core.specs.declared.value.StateType.{StateType}
use Rattle.lp_core.specs.Store.{Program, Held}
use Rattle.lp_core.specs.Val.{Val}
use Rattle.lp_machine.specs.declared.config.Config.{Config}
use Rattle.lp_machine.specs.GrammarTables.{grammar_tables}
use Rattle.lp_machine.specs.Tables.{Tables}
use Rattle.lp_maker.specs.Slots.{Names, slot_of}
use Rattle.lp_ascent.specs.Slots.{Layout, has_lookahead}
use Rattle.lp_ascent.specs.StateLines.{new_cells}
use Rattle.lp_ascent_bodies.specs.AscentStates.{Stating}
use Rattle.lp_code_laws.specs.Ends.Ends.{Moment, at}
use Rattle.lp_code_laws.proofs.Ends.Lists.{get_first}
use Rattle.lp_code_laws.specs.Slots.Shows.{Shows, HasRoom}
use Rattle.lp_code_laws.proofs.Slots.Slots.{get_within}
use Rattle.lp_code_laws.specs.Printed.Ran.{Ran}
use Rattle.lp_question_laws.specs.Reductions.Outer.{sym_name}
use Rattle.lp_back_end_laws.specs.Call.Frames.{AreSlots, AreApart, AreOwn, comes_as_cell, own_slots}
use Rattle.lp_back_end_laws.specs.Call.Slots.{layout}
use Rattle.lp_back_end_laws.specs.Call.Standing.{Follows, IsTaken, OnTop, Sees, look_val}
use Rattle.lp_back_end_laws.specs.Call.Turns.{ShowsFrame}
use Rattle.lp_back_end_laws.proofs.Call.Cells.{over_cells, slot_lines}
use Rattle.lp_back_end_laws.proofs.Call.FirstNames.{keys_apart}
use Rattle.lp_back_end_laws.proofs.Call.FrameCells.{CellsLet, cells_let, new_ones}
use Rattle.lp_back_end_laws.proofs.Call.FunctionArms.{shared_at, names_at, many_at}
use Rattle.lp_back_end_laws.proofs.Call.FunctionCode.{at_match, slots_of}
use Rattle.lp_back_end_laws.proofs.Call.Matching.{AtMatch}
use Rattle.lp_back_end_laws.proofs.Call.Owning.{own_are, own_apart, are_own}
use Rattle.lp_back_end_laws.proofs.Call.RowsBefore.{first_row, begin_at, first_names, IsBegun, match_rows, match_begun, names_within, slots_few, cells_next, with_cells}
use Rattle.lp_back_end_laws.proofs.Call.Setting.{Setting}

module _ {g : Grammar} {start : ℕ} {states : List Lr1State} {params : List Text} {failing : List ℕ} {items : List RunItem} {p : Program} {keys : List (List ℕ)} {given : List Val} {function action variant : ℕ → ℕ} {kind : StateType} {expected most cost : ℕ}
    (setting : Setting g start states params failing items p keys given function action variant kind expected most cost) (q : ℕ) (s : Lr1State) (there : slice_get states q ≡ Some s) where
  abbrev t : Tables
  t = grammar_tables g states Trial params failing

  -- behind the row that pulls, where there is one: names show the frame and the lookahead
  pub record FirstRan (b : Bool) (list : ℕ) (slots : List Val) (look : Option (Spanned Token)) (from : Moment) : Type 0 where
    pub count : ℕ
    pub moment : Moment
    pub ran : Ran p (first_row b (begin_at setting q s there)).lines from count moment
    pub many : length moment.store.env ≡ many_at setting q s there
    pub shown : ShowsFrame (first_row b (begin_at setting q s there)).lines.names moment.store.env keys given list slots
    pub look_shown : Shows (first_row b (begin_at setting q s there)).lines.names moment.store.env (codes "~lookahead") (look_val look)
    pub same_slot : look_shown.slot ≡ (first_row b (begin_at setting q s there)).shared.lookahead

  -- parameters bear no symbol's name
  no_symbols : (i : ℕ) (key : List ℕ) → slice_get keys i ≡ Some key → (k : ℕ) → bytes_eq (sym_name k) key ≡ false
  no_symbols i key at k = keys_apart g.prefix keys setting.read.keys_plain (codes "sym" ++ decimal k) i key at

  -- at the match
  pub record Arrived (now : Config) (list : ℕ) (slots : List Val) (look : Option (Spanned Token)) (from : Moment) (count : ℕ) (before : List Held) : Type 0 where
    pub moment : Moment
    pub own : List Val
    pub new : List Held
    pub ran : Ran p (at_match setting q s there).lines from count moment
    pub matched : AtMatch g states t items kind keys given (shared_at setting q s there) (names_at setting q s there) (many_at setting q s there) q now list own look moment
    pub are_own : AreOwn (length before) slots own
    pub cells : moment.store.cells ≡ before ++ new

  pub arrives : (b : Bool) → not (has_lookahead (slots_of setting q s there)) ≡ b → (now : Config) (list : ℕ) (slots : List Val) (look : Option (Spanned Token)) (from : Moment)
      → OnTop states q now → now.mending ≡ None → IsTaken items look → Sees t items now look → (f : FirstRan b list slots look from) → Follows now list (at f.moment 0) → AreSlots (layout g states q) (comes_as_cell (layout g states q)) 0 now.triples f.moment.store.cells slots → AreApart slots
      → Arrived now list slots look from f.count f.moment.store.cells
  arrives b is now list slots look from on_top mending look_taken sees f follows are apart = record {
    moment = last;
    own = own;
    new = new_ones l slots;
    ran = subst (λ (u : Stating). Ran p u.lines from f.count last) (sym rows) made.ran;
    matched = record {
      on_top = on_top;
      mending = mending;
      look_taken = look_taken;
      sees = sees;
      follows = record { states_are = get_first f.moment.store.cells (new_ones l slots) list follows.states_are; taken = follows.taken; calls = follows.calls };
      own_are = own_are are apart made.owned;
      apart = own_apart are apart made.owned;
      many_are = made.keeps.many ∙ f.many;
      shown = subst (λ (ns : Names). ShowsFrame ns made.env keys given list own) (sym names_is) made.shown;
      look_shown = record {
        slot = made.look_shown.slot;
        is = ap (slot_of (codes "~lookahead")) names_is ∙ made.look_shown.is;
        below = subst (λ (ns : Names). made.look_shown.slot < ns.next) (sym names_is) made.look_shown.below;
        held = made.look_shown.held;
      };
      look_slot = made.same_slot ∙ f.same_slot ∙ sym (ap (λ (u : Stating). u.shared.lookahead) rows);
      kind_is = begun.kind_is;
      result = result.0;
      result_there = result.1;
      result_below = subst (λ n. n < (names_at setting q s there).next) (sym begun.made_is) begun.below;
      result_apart = λ key v other h same. begun.alone key h.slot other h.is (sym begun.made_is ∙ same);
    };
    are_own = are_own are apart made.owned;
    cells = refl;
  }
    where
      l : Layout
      l = layout g states q

      rows : at_match setting q s there ≡ with_cells (first_row b (begin_at setting q s there)) (new_cells l)
      rows = match_rows setting q s there b is

      begun : IsBegun kind (first_names setting q s there).next (at_match setting q s there)
      begun = match_begun setting q s there

      names_is : names_at setting q s there ≡ (slot_lines (new_cells l) (first_row b (begin_at setting q s there)).lines).names
      names_is = ap (λ (u : Stating). u.lines.names) rows

      room : HasRoom (length (new_cells l)) (first_row b (begin_at setting q s there)).lines.names f.moment.store.env
      room = record { room = (let e = cells_next (new_cells l) (first_row b (begin_at setting q s there)).lines in let k = ap (λ (ns : Names). ns.next) names_is in let w = names_within setting q s there in omega (arith, e, k, w, f.many)) }

      own : List Val
      own = own_slots l (length f.moment.store.cells) slots

      made : CellsLet p l (slots_few setting q s there) keys no_symbols given list slots now.triples from (first_row b (begin_at setting q s there)).lines f.moment f.count (look_val look) f.look_shown.slot
      made = cells_let p l (slots_few setting q s there) keys no_symbols given list slots now.triples from (first_row b (begin_at setting q s there)).lines f.moment f.count (look_val look) f.ran room are f.shown f.look_shown

      last : Moment
      last = over_cells made.env (f.moment.store.cells ++ new_ones l slots) f.moment

      result : (v : Val) × (slice_get made.env (shared_at setting q s there).made ≡ Some v)
      result = get_within made.env (shared_at setting q s there).made (let w = names_within setting q s there in omega (arith, begun.made_is, begun.below, w, made.keeps.many, f.many))
