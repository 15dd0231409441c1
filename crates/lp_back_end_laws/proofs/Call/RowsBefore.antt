-- The rows of a state's function before its match: their names, and what all its lines share.
use Rattle.std.proofs.Common.{◌≡◌, ℕ, ◌+◌, ◌<◌, ◌≤◌, Bool, true, false, List, [], ◌∷◌, length, map, Some, refl, sym, ap, ◌∙◌, subst, arith, codes, decimal}
use Rattle.std.specs.Prelude.{slice_get, ◌^◌, ◌++◌, not, if◌then◌else◌}
use Rattle.lp_repr.specs.declared.lr1.Lr1State.{Lr1State}
use Rattle.lp_repr.specs.declared.repr.Grammar.{Grammar}
use Rattle.lp_repr.specs.declared.values.RunItem.{RunItem}
use Rattle.lp_driver.specs.Values.{Text}
use Rattle.lp_core.specs.declared.value.StateType.{StateType}
use Rattle.lp_core.specs.Store.{Program}
use Rattle.lp_core.specs.Val.{Val}
use Rattle.lp_view.specs.PartLists.{over}
use Rattle.lp_maker.specs.Making.{parameters}
use Rattle.lp_maker.specs.Slots.{Names, no_names}
use Rattle.lp_bodies.specs.Lines.{Lines}
use Rattle.lp_bodies.specs.Reductions.{vec_type}
use Rattle.lp_ascent.specs.Slots.{count_of, has_lookahead}
use Rattle.lp_ascent.specs.StateLines.{new_cells}
use Rattle.lp_ascent_bodies.specs.AscentStarts.{after_token}
use Rattle.lp_ascent_bodies.specs.AscentStates.{Stating, no_lines, token_row, state_row, state_value}
use Rattle.lp_question_laws.specs.Reductions.Outer.{sym_name}
use Rattle.lp_question_laws.proofs.Reductions.Parameters.{bound_each}
use Rattle.lp_question_laws.proofs.Reductions.Texts.{AllKeys, names_of}
use Rattle.lp_back_end_laws.proofs.Call.Cells.{slot_lines}
use Rattle.lp_back_end_laws.proofs.Call.EachName.{AreBelow, IsAlone, each_below, none_below, bound_alone, still_alone}
use Rattle.lp_back_end_laws.proofs.Call.FunctionArms.{shared_at, names_at, arms_at, many_at, after_at, after_there}
use Rattle.lp_back_end_laws.proofs.Call.FunctionCode.{maker_of, slots_of, header_of, at_match, behind_match, at_last, function_read, after_are, within}
use Rattle.lp_back_end_laws.proofs.Call.Setting.{Setting}
use Rattle.lp_back_end_laws.proofs.Call.PrefixWords.{word_prefix}
use Rattle.lp_back_end_laws.proofs.Call.SlotsFew.{slots_few as few_slots}
use Rattle.lp_back_end_laws.proofs.Call.StateHeaders.{own_keys, state_names, state_typed}
use Rattle.lp_back_end_laws.proofs.Call.StateParts.{lines_before, slot_form}

-- ---- the rows
abbrev pub with_cells : Stating → List ℕ → Stating
with_cells s js = record s { lines = slot_lines js s.lines }

cells_rows : (s : Stating) (js : List ℕ) → over state_row s (map slot_form (map decimal js)) ≡ with_cells s js
cells_rows s [] = refl
cells_rows s (j ∷ js) = cells_rows (with_cells s (j ∷ [])) js

abbrev pub first_row : Bool → Stating → Stating
first_row b s = if b then token_row s else s

rows_before : (s : Stating) (b : Bool) (js : List ℕ) → over state_row s (lines_before b (map decimal js)) ≡ with_cells (first_row b s) js
rows_before s true js = cells_rows (token_row s) js
rows_before s false js = cells_rows s js

pub cells_next : (js : List ℕ) (l : Lines) → (slot_lines js l).names.next ≡ l.names.next + length js
cells_next [] l = omega arith
cells_next (j ∷ js) l = (let r = cells_next js (slot_lines (j ∷ []) l) in omega (arith, r))

-- ---- the slot of the result
-- it is the first behind the parameters, and has one name
pub record IsBegun (kind : StateType) (made : ℕ) (s : Stating) : Type 0 where
  pub kind_is : s.shared.kind ≡ Some kind
  pub made_is : s.shared.made ≡ made
  pub below : made < s.lines.names.next
  pub alone : IsAlone (codes "~result") made s.lines.names

cells_begun : (kind : StateType) (made : ℕ) (js : List ℕ) (s : Stating) → IsBegun kind made s → IsBegun kind made (with_cells s js)
cells_begun kind made [] s h = h
cells_begun kind made (j ∷ js) s h = cells_begun kind made js (with_cells s (j ∷ [])) (record { kind_is = h.kind_is; made_is = h.made_is; below = omega (arith, h.below); alone = still_alone (codes "~result") made (sym_name j) s.lines.names h.below h.alone })

row_begun : (kind : StateType) (made : ℕ) (b : Bool) (s : Stating) → IsBegun kind made s → IsBegun kind made (first_row b s)
row_begun kind made false s h = h
row_begun kind made true s h = record { kind_is = h.kind_is; made_is = h.made_is; below = omega (arith, h.below); alone = still_alone (codes "~result") made (codes "~lookahead") (after_token s.lines.names) (omega (arith, h.below)) h.alone }

-- ---- of a state
module _ {g : Grammar} {start : ℕ} {states : List Lr1State} {params : List Text} {failing : List ℕ} {items : List RunItem} {p : Program} {keys : List (List ℕ)} {given : List Val} {function action variant : ℕ → ℕ} {kind : StateType} {expected most cost : ℕ}
    (setting : Setting g start states params failing items p keys given function action variant kind expected most cost) (q : ℕ) (s : Lr1State) (at : slice_get states q ≡ Some s) where
  -- the names of its parameters
  abbrev pub first_names : Names
  first_names = bound_each no_names (keys ++ own_keys (slots_of setting q s at))

  pub slots_few : count_of (slots_of setting q s at) < 2 ^ 64
  slots_few = few_slots setting.over setting.symbols_few q s at

  keys_all : AllKeys g.prefix (names_of g.parameters)
  keys_all = subst (AllKeys g.prefix) setting.read.keys_are setting.read.keys_plain

  prefix_is : (maker_of setting q s at).prefix ≡ g.prefix
  prefix_is = setting.code.prefix q (within setting q s at)

  pub names_are : parameters (maker_of setting q s at).prefix (header_of setting q s at) ≡ first_names
  names_are =
      ap (λ r. parameters r (header_of setting q s at)) prefix_is
      ∙ state_names g states (word_prefix g.prefix setting.read.prefix) keys_all q (slots_of setting q s at) (let few = slots_few in omega (arith, few))
      ∙ ap (λ (ks : List (List ℕ)). bound_each no_names (ks ++ own_keys (slots_of setting q s at))) (sym setting.read.keys_are)

  type_is : vec_type (maker_of setting q s at).prefix (header_of setting q s at) ≡ Some kind
  type_is = ap (λ r. vec_type r (header_of setting q s at)) prefix_is ∙ state_typed g states (word_prefix g.prefix setting.read.prefix) keys_all q (slots_of setting q s at) ∙ setting.code.kind_is

  -- where it begins
  abbrev pub begin_at : Stating
  begin_at = no_lines (header_of setting q s at) first_names (maker_of setting q s at)

  pub match_rows : (b : Bool) → not (has_lookahead (slots_of setting q s at)) ≡ b → at_match setting q s at ≡ with_cells (first_row b begin_at) (new_cells (slots_of setting q s at))
  match_rows b is =
      ap (λ (ns : Names). over state_row (no_lines (header_of setting q s at) ns (maker_of setting q s at)) (lines_before (not (has_lookahead (slots_of setting q s at))) (map decimal (new_cells (slots_of setting q s at))))) names_are
      ∙ ap (λ (c : Bool). over state_row begin_at (lines_before c (map decimal (new_cells (slots_of setting q s at))))) is
      ∙ rows_before begin_at b (new_cells (slots_of setting q s at))

  pub match_begun : IsBegun kind first_names.next (at_match setting q s at)
  match_begun =
      let b = not (has_lookahead (slots_of setting q s at)) in
      let below : AreBelow first_names = each_below (keys ++ own_keys (slots_of setting q s at)) no_names none_below in
      let first : IsBegun kind first_names.next begin_at = record { kind_is = type_is; made_is = refl; below = omega arith; alone = bound_alone (codes "~result") first_names below } in
      subst (IsBegun kind first_names.next) (sym (match_rows b refl)) (cells_begun kind first_names.next (new_cells (slots_of setting q s at)) (first_row b begin_at) (row_begun kind first_names.next b begin_at first))

  -- there are slots for all names
  pub names_within : (names_at setting q s at).next ≤ many_at setting q s at
  names_within = (let a = (after_there setting q s at).cut.next in let b = (after_are setting q s at).cut.next in omega (arith, a, b))

  -- the body of its function
  pub body_is : (function_read setting q s at).body ≡ state_value (shared_at setting q s at) (at_match setting q s at).lines.parts (arms_at setting q s at) (after_at setting q s at)
  body_is =
      let a = after_are setting q s at in
      let last = at_last setting q s at in
      let behind = behind_match setting q s at in
      ap (λ sh. state_value sh last.lines.parts last.arms last.after) a.shared
      ∙ ap (λ ps. state_value behind.shared ps last.arms last.after) a.parts
      ∙ ap (λ arms. state_value behind.shared behind.lines.parts arms last.after) a.arms
