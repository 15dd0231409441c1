-- The functions of a module of recursive ascent, by their names.
use Rattle.std.proofs.Common.{◌≡◌, ℕ, suc, ◌+◌, ◌<◌, ◌≤◌, List, [], ◌∷◌, ◌++◌, length, take, drop, Option, Some, None, refl, ap, sym, subst, ◌∙◌, arith, append_assoc}
use Rattle.std.specs.Prelude.{slice_get, codes}
use Rattle.std.proofs.lemmas.List.{length-take-le}
use Rattle.std.proofs.lemmas.Option.{slice_get_within}
use Rattle.lp_form.specs.declared.part.Part.TheVariants as part
use Rattle.lp_repr.specs.declared.lr1.Lr1State.{Lr1State}
use Rattle.lp_repr.specs.declared.repr.Grammar.{Grammar}
use Rattle.lp_tree.specs.ProgramTree.{leaf}
use Rattle.lp_table.specs.Starts.{Start, state_text}
use Rattle.lp_table.specs.TableLines.{action_lookup, action_table, goto_function, terminal_names}
use Rattle.lp_view.specs.PartLists.{Form, parts_of}
use Rattle.lp_maker.specs.Making.{Making}
use Rattle.lp_ascent.specs.BuiltAscent.{trial_lines}
use Rattle.lp_ascent.specs.Slots.{layouts_of}
use Rattle.lp_ascent.specs.StateLines.{state_lines}
use Rattle.lp_back_end_laws.proofs.Call.Linked.{state_form}
use Rattle.lp_question_laws.proofs.Gotos.LinkMaps.{told_apart}
use Rattle.lp_question_laws.proofs.Gotos.LinkModule.{IsNoAction, complete}
use Rattle.lp_agreement.proofs.Composed.AscentModules.{ascent_form, item_rows}
use Rattle.lp_back_end_laws.proofs.Ascent.Rows.{AreRows, IsNew, RowIs, new_append, rows_append}
use Rattle.lp_back_end_laws.proofs.Ascent.AscentRows.{name_new, others_new, own_forms, state_name, state_names, state_row, state_rows, states_at}
use Rattle.lp_back_end_laws.proofs.Ascent.ModuleRows.{accepts_row, all_are, all_names, expected_row, front_are, front_names, front_rows, goto_row, lookup_row, own_states, simulate_row, tables_are, table_names, table_row, table_rows, terminals_row, trial_names, trial_rows, trials_are}
use Rattle.lp_back_end_laws.proofs.Ascent.Linking.{Told, row_told}

module _ (g : Grammar) (states : List Lr1State) (st : Start) (prefix : List ℕ) (program : Form) where
  abbrev items : Form
  items = ascent_form g states st

  -- all that is made before the `parse` method
  abbrev pub last : Making
  last = complete prefix program items

  pub items_are : AreRows (parts_of items) (all_names g states st)
  items_are = subst (λ (fs : List Form). AreRows fs (all_names g states st)) (sym (item_rows g states st)) (all_are g states st)

  -- ---- a state's function
  module _ (few : length states ≤ 2147483647) (q : ℕ) (s : Lr1State) (at : slice_get states q ≡ Some s) where
    abbrev earlier : List Form
    earlier = own_forms g states 0 (take q states)

    abbrev later : List Form
    later = own_forms g states (q + 1) (drop (suc q) states) ++ (table_rows g states st ++ trial_rows g states st)

    abbrev its_form : Form
    its_form = state_lines g states (layouts_of g states) q s

    split : parts_of items ≡ (front_rows g states st ++ earlier) ++ its_form ∷ later
    split =
        item_rows g states st
        ∙ ap (λ (fs : List Form). front_rows g states st ++ (fs ++ (table_rows g states st ++ trial_rows g states st))) (states_at g states q states s at)
        ∙ ap (λ (fs : List Form). front_rows g states st ++ fs) (append_assoc earlier (its_form ∷ own_forms g states (q + 1) (drop (suc q) states)) (table_rows g states st ++ trial_rows g states st))
        ∙ sym (append_assoc (front_rows g states st) earlier (its_form ∷ later))

    within : q < length states
    within = slice_get_within states q s at

    new : IsNew (state_name g states q) (front_names g states st ++ state_names g states 0 (take q states))
    new = name_new g states q 0 (take q states) (omega (arith, length-take-le q states, within)) (omega (arith, within, few))

    told_so : Told prefix last (state_name g states q) its_form
    told_so =
        row_told prefix program items (all_names g states st) items_are
        (front_rows g states st ++ earlier) its_form later split
        (front_names g states st ++ state_names g states 0 (take q states)) (state_names g states (q + 1) (drop (suc q) states) ++ (table_names g states st ++ trial_names g states st))
        (rows_append (front_rows g states st) earlier (front_names g states st) (state_names g states 0 (take q states)) (front_are g states st) (state_rows g states 0 (take q states)))
        (state_name g states q) (state_row g states q s)
        (rows_append (own_forms g states (q + 1) (drop (suc q) states)) (table_rows g states st ++ trial_rows g states st) (state_names g states (q + 1) (drop (suc q) states)) (table_names g states st ++ trial_names g states st) (state_rows g states (q + 1) (drop (suc q) states))
        (rows_append (table_rows g states st) (trial_rows g states st) (table_names g states st) (trial_names g states st) (tables_are g states st) (trials_are g states st)))
        new (λ rest. told_apart (state_name g states q) (codes "super::action" ++ rest) refl)

    pub state_told : Told prefix last (state_name g states q) (state_form g states q s)
    unfolding state_lines
    state_told = told_so

  -- ---- the other functions
  module _ (before : List Form) (form : Form) (after : List Form) (split : table_rows g states st ++ trial_rows g states st ≡ before ++ form ∷ after) (first then_names : List (Option (List ℕ))) (rows_before : AreRows before first) (q : List ℕ) (row : RowIs form (Some q)) (rows_after : AreRows after then_names)
      (apart : (n : ℕ) → q ≡ state_name g states n → ⊥) (new : IsNew q first) (no_action : IsNoAction q) where
    other_told : Told prefix last q form
    other_told =
        let ahead = front_rows g states st ++ own_states g states st in
        row_told prefix program items (all_names g states st) items_are
        (ahead ++ before) form after
        (item_rows g states st ∙ sym (append_assoc (front_rows g states st) (own_states g states st) (table_rows g states st ++ trial_rows g states st)) ∙ ap (λ (fs : List Form). ahead ++ fs) split ∙ sym (append_assoc ahead before (form ∷ after)))
        ((front_names g states st ++ state_names g states 0 states) ++ first) then_names
        (rows_append ahead before (front_names g states st ++ state_names g states 0 states) first (rows_append (front_rows g states st) (own_states g states st) (front_names g states st) (state_names g states 0 states) (front_are g states st) (state_rows g states 0 states)) rows_before)
        q row rows_after
        (new_append q (front_names g states st ++ state_names g states 0 states) first (others_new g states q apart 0 states) new) no_action

  pub action_told : Told prefix last (codes "action") (action_lookup g states)
  action_told =
      let q = codes "action" in
      other_told (action_table g states ∷ []) (action_lookup g states) (goto_function g states ∷ terminal_names g ∷ trial_rows g states st) refl (None ∷ []) (Some (codes "goto") ∷ None ∷ trial_names g states st) (table_row g states st, tt) q (lookup_row g states st)
      (goto_row g states st, (terminals_row g states st, trials_are g states st)) (λ n. told_apart q (state_name g states n) refl) tt (λ rest. told_apart q (codes "super::action" ++ rest) refl)

  pub goto_told : Told prefix last (codes "goto") (goto_function g states)
  goto_told =
      let q = codes "goto" in
      other_told (action_table g states ∷ action_lookup g states ∷ []) (goto_function g states) (terminal_names g ∷ trial_rows g states st) refl (None ∷ Some (codes "action") ∷ []) (None ∷ trial_names g states st) (table_row g states st, (lookup_row g states st, tt)) q (goto_row g states st)
      (terminals_row g states st, trials_are g states st) (λ n. told_apart q (state_name g states n) refl) (told_apart q (codes "action") refl, tt) (λ rest. told_apart q (codes "super::action" ++ rest) refl)

  pub simulate_told : Told prefix last (codes "simulate") (trial_lines g states st)
  simulate_told =
      let q = codes "simulate" in
      other_told (table_rows g states st) (trial_lines g states st) (leaf part.AscentAccepts (state_text g states ∷ []) ∷ leaf part.AscentExpected (state_text g states ∷ []) ∷ []) refl (table_names g states st) (Some (codes "accepts") ∷ Some (codes "expected") ∷ []) (tables_are g states st) q (simulate_row g states st)
      (accepts_row g states st, (expected_row g states st, tt)) (λ n. told_apart q (state_name g states n) refl) (told_apart q (codes "action") refl, (told_apart q (codes "goto") refl, tt)) (λ rest. told_apart q (codes "super::action" ++ rest) refl)

  pub accepts_told : Told prefix last (codes "accepts") (leaf part.AscentAccepts (state_text g states ∷ []))
  accepts_told =
      let q = codes "accepts" in
      other_told (table_rows g states st ++ trial_lines g states st ∷ []) (leaf part.AscentAccepts (state_text g states ∷ [])) (leaf part.AscentExpected (state_text g states ∷ []) ∷ []) refl (table_names g states st ++ Some (codes "simulate") ∷ []) (Some (codes "expected") ∷ [])
      (rows_append (table_rows g states st) (trial_lines g states st ∷ []) (table_names g states st) (Some (codes "simulate") ∷ []) (tables_are g states st) (simulate_row g states st, tt)) q (accepts_row g states st)
      (expected_row g states st, tt) (λ n. told_apart q (state_name g states n) refl) (told_apart q (codes "action") refl, (told_apart q (codes "goto") refl, (told_apart q (codes "simulate") refl, tt))) (λ rest. told_apart q (codes "super::action" ++ rest) refl)

  pub expected_told : Told prefix last (codes "expected") (leaf part.AscentExpected (state_text g states ∷ []))
  expected_told =
      let q = codes "expected" in
      other_told (table_rows g states st ++ trial_lines g states st ∷ leaf part.AscentAccepts (state_text g states ∷ []) ∷ []) (leaf part.AscentExpected (state_text g states ∷ [])) [] refl (table_names g states st ++ Some (codes "simulate") ∷ Some (codes "accepts") ∷ []) []
      (rows_append (table_rows g states st) (trial_lines g states st ∷ leaf part.AscentAccepts (state_text g states ∷ []) ∷ []) (table_names g states st) (Some (codes "simulate") ∷ Some (codes "accepts") ∷ []) (tables_are g states st) (simulate_row g states st, (accepts_row g states st, tt))) q (expected_row g states st)
      tt (λ n. told_apart q (state_name g states n) refl) (told_apart q (codes "action") refl, (told_apart q (codes "goto") refl, (told_apart q (codes "simulate") refl, (told_apart q (codes "accepts") refl, tt)))) (λ rest. told_apart q (codes "super::action" ++ rest) refl)
