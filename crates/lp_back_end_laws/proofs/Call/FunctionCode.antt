-- The code of a state's function, as it was read from its printed lines.
use Rattle.std.proofs.Common.{◌≡◌, ℕ, ◌<◌, List, [], ◌∷◌, ◌++◌, map, length, Some, slice_get, sym, ap, ◌∙◌, subst, append_assoc, decimal}
use Rattle.std.specs.Prelude.{not}
use Rattle.std.specs.List.{flat_map}
use Rattle.std.proofs.lemmas.Option.{slice_get_within}
use Rattle.lp_repr.specs.Numbering.{terminals_of}
use Rattle.lp_repr.specs.declared.lr1.Lr1State.{Lr1State}
use Rattle.lp_repr.specs.declared.repr.Grammar.{Grammar}
use Rattle.lp_repr.specs.declared.values.RunItem.{RunItem}
use Rattle.lp_driver.specs.Values.{Text}
use Rattle.lp_core.specs.declared.expr.Function.{Function}
use Rattle.lp_core.specs.declared.value.StateType.{StateType}
use Rattle.lp_core.specs.Store.{Program}
use Rattle.lp_core.specs.Val.{Val}
use Rattle.lp_view.specs.PartLists.{Form, parts_of, over}
use Rattle.lp_machine.specs.GrammarTables.{known_among}
use Rattle.lp_maker.specs.Making.{Making, parameters}
use Rattle.lp_bodies.specs.Arms.{no_arms}
use Rattle.lp_bodies.specs.Reductions.{function_done}
use Rattle.lp_ascent.specs.ReduceLines.{reduction_lines}
use Rattle.lp_ascent.specs.ShiftLines.{shift_lines}
use Rattle.lp_ascent.specs.Slots.{Layout, has_lookahead, layouts_of}
use Rattle.lp_ascent.specs.StateLines.{error_location, new_cells, state_header}
use Rattle.lp_ascent_bodies.specs.AscentStates.{Stating, no_lines, state_row, state_rows, state_done, headed, with_headed}
use Rattle.lp_question_laws.proofs.Tokens.Forms.{AreTexts}
use Rattle.lp_back_end_laws.specs.Call.Slots.{layout}
use Rattle.lp_back_end_laws.specs.Call.Cases.{line_soughts, forms_sought}
use Rattle.lp_back_end_laws.specs.Call.Arms.{arms_of}
use Rattle.lp_back_end_laws.proofs.Call.Setting.{Setting}
use Rattle.lp_back_end_laws.proofs.Call.Linked.{IsIn, state_form}
use Rattle.lp_back_end_laws.proofs.Call.FunctionGrows.{rows_grow, error_grows, in_before}
use Rattle.lp_back_end_laws.proofs.Call.FunctionRows.{armed_by, with_match, match_rows, AfterRows, after_rows}
use Rattle.lp_back_end_laws.proofs.Call.FunctionTexts.{lines_texts, texts_there}
use Rattle.lp_back_end_laws.proofs.Call.StateCases.{ArmLines, valid_lines}
use Rattle.lp_back_end_laws.proofs.Call.StateMatch.{error_form, arms_so_far, IsMatchOf, match_read, over_both}
use Rattle.lp_back_end_laws.proofs.Call.StateParts.{lines_before, before_match, header_row, goto_forms, parts_of_state}

module _ {g : Grammar} {start : ℕ} {states : List Lr1State} {params : List Text} {failing : List ℕ} {items : List RunItem} {p : Program} {keys : List (List ℕ)} {given : List Val} {function action variant : ℕ → ℕ} {kind : StateType} {expected most cost : ℕ}
    (setting : Setting g start states params failing items p keys given function action variant kind expected most cost) (q : ℕ) (s : Lr1State) (at : slice_get states q ≡ Some s) where
  abbrev pub maker_of : Making
  maker_of = setting.code.maker q

  abbrev pub slots_of : Layout
  slots_of = layout g states q

  abbrev pub header_of : Form
  header_of = state_header g states q slots_of

  -- the lines of its arms
  pub arm_lines : ArmLines g (layouts_of g states) slots_of (known_among g (terminals_of g)) setting.read.terminals setting.read.terminals_many (shift_lines g (layouts_of g states) slots_of s.shifts.entries ++ reduction_lines g slots_of s.reductions) (arms_of g s)
  arm_lines = valid_lines setting.over q s at (layouts_of g states) slots_of (known_among g (terminals_of g)) setting.read.terminals setting.read.terminals_many setting.read.shifts

  abbrev pub arm_forms : List Form
  arm_forms = arm_lines.forms

  -- where it begins, at its match, behind the arms, and at its end
  abbrev pub at_first : Stating
  at_first = no_lines header_of (parameters maker_of.prefix header_of) maker_of

  abbrev pub at_match : Stating
  at_match = over state_row at_first (lines_before (not (has_lookahead slots_of)) (map decimal (new_cells slots_of)))

  abbrev pub behind_match : Stating
  behind_match = with_match at_match arm_forms (error_location slots_of)

  abbrev pub at_last : Stating
  at_last = over state_row behind_match (goto_forms g (layouts_of g states) slots_of s)

  parts_are : parts_of (state_form g states q s) ≡ header_of ∷ (lines_before (not (has_lookahead slots_of)) (map decimal (new_cells slots_of)) ++ (arm_forms ++ error_form (error_location slots_of) ∷ goto_forms g (layouts_of g states) slots_of s))
  parts_are = parts_of_state g (layouts_of g states) slots_of s states q arm_forms arm_lines.whole arm_lines.flattened

  rows_are : state_rows (state_form g states q s) at_first ≡ at_last
  rows_are =
      let before = lines_before (not (has_lookahead slots_of)) (map decimal (new_cells slots_of)) in
      let error = error_form (error_location slots_of) in
      let gotos = goto_forms g (layouts_of g states) slots_of s in
      ap (over state_row at_first) parts_are
      ∙ ap (λ t. over state_row t (before ++ (arm_forms ++ error ∷ gotos))) (header_row g states q slots_of at_first)
      ∙ over_both p at_first before (arm_forms ++ error ∷ gotos)
      ∙ ap (λ fs. over state_row at_match fs) (sym (append_assoc arm_forms (error ∷ []) gotos))
      ∙ over_both p at_match (arm_forms ++ error ∷ []) gotos
      ∙ ap (λ t. over state_row t gotos) (match_rows p at_match arm_forms (error_location slots_of) arm_lines.lines)

  headed_by : slice_get (parts_of (state_form g states q s)) 0 ≡ Some header_of
  headed_by = ap (λ fs. slice_get fs 0) parts_are

  -- its function
  abbrev pub function_read : Function
  function_read = function_done (parameters maker_of.prefix header_of).next (state_done at_last)

  pub function_there : slice_get p.functions (function q) ≡ Some function_read
  function_there =
      setting.code.there q s at
      ∙ ap (λ o. Some (headed maker_of (state_form g states q s) o)) headed_by
      ∙ ap (λ t. Some (function_done (parameters maker_of.prefix header_of).next (state_done t))) rows_are

  -- what was made stands in the program
  pub made_in : IsIn g p variant at_last.made
  made_in = subst (IsIn g p variant) (ap (λ o. with_headed (state_form g states q s) o maker_of) headed_by ∙ ap (λ t. t.made) rows_are) (setting.code.made q s at)

  pub within : q < length states
  within = slice_get_within states q s at

  -- before the match nothing is made
  pub match_made : at_match.made ≡ maker_of
  match_made = (before_match at_first (not (has_lookahead slots_of)) (map decimal (new_cells slots_of))).made

  match_arms : at_match.arms ≡ no_arms
  match_arms = (before_match at_first (not (has_lookahead slots_of)) (map decimal (new_cells slots_of))).arms

  pub after_are : AfterRows g (layouts_of g states) slots_of s behind_match at_last
  after_are = after_rows g (layouts_of g states) slots_of s behind_match

  -- what was made behind the arms, and behind the error's
  pub behind_in : IsIn g p variant behind_match.made
  behind_in = in_before behind_match.made at_last.made (rows_grow behind_match (goto_forms g (layouts_of g states) slots_of s)) made_in

  pub arms_in : IsIn g p variant (armed_by at_match arm_forms).made
  arms_in = in_before (armed_by at_match arm_forms).made behind_match.made (error_grows (armed_by at_match arm_forms).made (armed_by at_match arm_forms).names (error_form (error_location slots_of))) behind_in

  pub match_prefix : at_match.made.prefix ≡ g.prefix
  match_prefix = ap (λ (m : Making). m.prefix) match_made ∙ setting.code.prefix q within

  -- its match
  pub match_is : IsMatchOf p g.prefix at_match arm_forms (error_location slots_of) behind_match
  match_is =
      let forms = forms_sought (flat_map (line_soughts g.prefix) arm_forms) in
      let made = lines_texts p at_match.shared g.prefix arm_forms (arms_so_far at_match) match_prefix arm_lines.lines in
      let texts : AreTexts p.texts (length at_match.made.texts) forms = texts_there p at_match.made.texts forms arms_in.texts.0 (arms_in.texts.1 ∙ ap (λ ts. ts ++ arms_in.texts.0) made) in
      subst (IsMatchOf p g.prefix at_match arm_forms (error_location slots_of)) (match_rows p at_match arm_forms (error_location slots_of) arm_lines.lines)
      (match_read p at_match g.prefix arm_forms (error_location slots_of) match_prefix (ap (λ a. a.cases) match_arms) (ap (λ a. a.bodies) match_arms) arm_lines.lines texts)
