-- The names of terminals stand among the texts of the built module, by their numbers.
use Rattle.std.proofs.Common.{◌≡◌, ℕ, Bool, true, false, List, [], ◌∷◌, ◌++◌, length, map, Option, Some, None, refl, ap, sym, subst, ◌∙◌, append_assoc, append-nil, ◌+◌, codes, if◌then◌else◌}
use Rattle.std.specs.Prelude.{slice_get}
use Rattle.std.specs.List.{flat_map}
use Rattle.lp_form.specs.declared.part.Part.TheVariants as part
use Rattle.lp_repr.specs.Numbering.{productions_of, terminals_of}
use Rattle.lp_repr.specs.declared.lr1.Lr1State.{Lr1State}
use Rattle.lp_repr.specs.declared.repr.Grammar.{Grammar}
use Rattle.lp_repr.specs.declared.repr.Production.{Production}
use Rattle.lp_tree.specs.ProgramTree.{leaf}
use Rattle.lp_build.specs.Built.{over, row, text_rows}
use Rattle.lp_build.specs.Functions.{parser_part}
use Rattle.lp_table.specs.FrameLines.{table_parser}
use Rattle.lp_table.specs.MachineLines.{acceptance, definition, drive_call, expected_list, implementation, simulation, symbol_values}
use Rattle.lp_table.specs.Pieces.{variant_types_shown}
use Rattle.lp_table.specs.ReductionLines.{is_called, reduce_function}
use Rattle.lp_table.specs.Starts.{Start}
use Rattle.lp_table.specs.TableLines.{action_table, end_table, expected_lines, goto_function, terminal_lines, terminal_name, terminal_names}
use Rattle.lp_table.specs.TokenLines.{token_numbers, token_symbols}
use Rattle.lp_table.specs.BuiltTable.{table_items}
use Rattle.lp_view.specs.PartLists.{Form, hole_of, is_a, parts_of}
use Rattle.lp_view.specs.PartLists as view
use Rattle.lp_maker.specs.Making.{Making, unmade}
use Rattle.lp_bodies.specs.Tables.{with_terminal, with_terminals}
use Rattle.lp_run.specs.Named.{is_interned, parser_of}
use Rattle.lp_run.specs.Entered.{sourced, with_closure, with_source}
use Rattle.lp_run.specs.Functions.{all_made, actions_made}
use Rattle.lp_run.specs.Promised.{Beginning, Promising, beginning, beginning_of, beginning_row, promising_of, promised, declared_row, module_row, module_rows, lookup_name, trial_name, header_number, is_source, is_action, is_lookup, is_trial, is_reduction, is_ascent}
use Rattle.lp_question_laws.proofs.Gotos.GotoCode.{over-append}
use Rattle.lp_question_laws.proofs.Gotos.LinkMaps.{get_more, get_end}
use Rattle.lp_question_laws.proofs.Gotos.LinkGrows.{either, grown_both}
use Rattle.lp_question_laws.proofs.Gotos.LinkModule.{actions_grown, actions_list, complete}
use Rattle.lp_question_laws.proofs.Gotos.LinkPromises.{AreNoAscent, AreOfTables, all_grown, promised_are, terminals_stay}
use Rattle.lp_question_laws.proofs.Gotos.LinkTable.{pops, owns, plain-append, before_plain, after_plain, goto_plain, one_own, by_both, rows_before, rows_after, reductions_after, lookup_is, parser_is, item_rows}
use Rattle.lp_question_laws.proofs.Gotos.Whole.{AreWhole, flat, parts_over}

-- ---- texts by their numbers
abbrev pub AreNamed : List (List ℕ) → List ℕ → List (List ℕ) → Type 0
AreNamed texts [] [] = Unit {0}
AreNamed texts [] (name ∷ names) = ⊥
AreNamed texts (n ∷ ns) [] = ⊥
AreNamed texts (n ∷ ns) (name ∷ names) = (slice_get texts n ≡ Some name) × AreNamed texts ns names

-- whatever texts follow
pub named_more : (texts more : List (List ℕ)) (ns : List ℕ) (names : List (List ℕ)) → AreNamed texts ns names → AreNamed (texts ++ more) ns names
named_more texts more [] [] a = tt
named_more texts more [] (name ∷ names) a = absurd a
named_more texts more (n ∷ ns) [] a = absurd a
named_more texts more (n ∷ ns) (name ∷ names) a = (get_more texts more n name a.0, named_more texts more ns names a.1)

named_last : (texts : List (List ℕ)) (ns : List ℕ) (names : List (List ℕ)) (n : ℕ) (name : List ℕ) → AreNamed texts ns names → slice_get texts n ≡ Some name → AreNamed texts (ns ++ n ∷ []) (names ++ name ∷ [])
named_last texts [] [] n name a is = (is, tt)
named_last texts [] (y ∷ names) n name a is = absurd a
named_last texts (x ∷ ns) [] n name a is = absurd a
named_last texts (x ∷ ns) (y ∷ names) n name a is = (a.0, named_last texts ns names n name a.1 is)

-- the rows of a list of terminals
abbrev pub name_forms : List (List ℕ) → List Form
name_forms names = map (λ (t : List ℕ). row part.TerminalRow (t ∷ []) ∷ []) names

pub names_flat : (names : List (List ℕ)) → (text_rows part.TerminalRow names ≡ flat (name_forms names)) × AreWhole (name_forms names)
names_flat [] = (refl, tt)
names_flat (t ∷ names) = let r = names_flat names in (ap (λ x. row part.TerminalRow (t ∷ []) ∷ x) r.0, (refl, r.1))

-- they are named behind those before
pub names_made : (m : Making) (old names : List (List ℕ)) → AreNamed m.texts m.terminals old → (let n = view.over with_terminal m (name_forms names) in AreNamed n.texts n.terminals (old ++ names))
names_made m old [] a = subst (AreNamed m.texts m.terminals) (sym (append-nil old)) a
names_made m old (name ∷ names) a =
    let n = with_terminal m (row part.TerminalRow (name ∷ []) ∷ []) in
    let last = view.over with_terminal n (name_forms names) in
    let more : AreNamed n.texts n.terminals (old ++ name ∷ []) = named_last n.texts m.terminals old (length m.texts) name (named_more m.texts (name ∷ []) m.terminals old a) (get_end m.texts [] name) in
    subst (AreNamed last.texts last.terminals) (append_assoc old (name ∷ []) names) (names_made n (old ++ name ∷ []) names more)

-- ---- rows that make no texts
pub record Unlisted (m n : Making) : Type 0 where
  pub terminals : n.terminals ≡ m.terminals
  pub texts : n.texts ≡ m.texts

unlisted_same : (m : Making) → Unlisted m m
unlisted_same m = record { terminals = refl; texts = refl }

unlisted_both : (m n o : Making) → Unlisted m n → Unlisted n o → Unlisted m o
unlisted_both m n o f g = record { terminals = g.terminals ∙ f.terminals; texts = g.texts ∙ f.texts }

abbrev AreUnlisted : List Form → Type 0
AreUnlisted [] = Unit {0}
AreUnlisted (f ∷ fs) = (is_a part.TerminalList f ≡ false) × AreUnlisted fs

unlisted_row : (s : Promising) (form : Form) → is_a part.TerminalList form ≡ false → Unlisted s.made (module_row s form).made
unlisted_row s form no_list =
    let P : Promising → Type 0 = λ (t : Promising). Unlisted s.made t.made in
    let kept : (name rest : List ℕ) → P (promised name rest s form) = λ name rest. record { terminals = refl; texts = refl } in
    either P (is_a part.ActionTable form) _ _ (record { terminals = refl; texts = refl }) (either P (is_a part.EofTable form) _ _ (record { terminals = refl; texts = refl })
    (subst P (sym (ap (λ (x : Bool). if x then promising_of s.promises (with_terminals form s.made) else declared_row s form) no_list))
    (either P (is_lookup form) _ _ (kept (lookup_name form) []) (either P (is_trial form) _ _ (kept (trial_name form) [])
    (either P (is_reduction form) _ _
    (either P (is_a part.Pop form) _ _ (kept (codes "pop_") (hole_of 0 form)) (either P (is_a part.ReduceFn form) _ _ (kept (codes "reduce") (header_number form)) (either P (is_a part.Reduce form) _ _ (kept (codes "reduce") []) (kept (codes "symbol_type_mismatch") []))))
    (either P (is_ascent form) _ _
    (either P (is_a part.StateFn form) _ _ (kept (codes "state") (header_number form)) (either P (is_a part.AscentSimulate form) _ _ (kept (codes "simulate") []) (either P (is_a part.AscentAccepts form) _ _ (kept (codes "accepts") []) (kept (codes "expected") []))))
    (unlisted_same s.made)))))))

unlisted_rows : (s : Promising) (fs : List Form) → AreUnlisted fs → Unlisted s.made (view.over module_row s fs).made
unlisted_rows s [] a = unlisted_same s.made
unlisted_rows s (f ∷ fs) a = unlisted_both s.made (module_row s f).made (view.over module_row (module_row s f) fs).made (unlisted_row s f a.0) (unlisted_rows (module_row s f) fs a.1)

unlisted-append : (fs gs : List Form) → AreUnlisted fs → AreUnlisted gs → AreUnlisted (fs ++ gs)
unlisted-append [] gs a b = b
unlisted-append (f ∷ fs) gs a b = (a.0, unlisted-append fs gs a.1 b)

-- nothing is listed where a module begins
begun_row : (b : Beginning) (form : Form) → (beginning_row b form).actions.made.terminals ≡ b.actions.made.terminals
begun_row b form =
    let P : Beginning → Type 0 = λ (c : Beginning). c.actions.made.terminals ≡ b.actions.made.terminals in
    either P (is_source form) _ _ refl (either P (is_action form) _ _ refl refl)

begun_rows : (b : Beginning) (fs : List Form) → (view.over beginning_row b fs).actions.made.terminals ≡ b.actions.made.terminals
begun_rows b [] = refl
begun_rows b (f ∷ fs) = begun_rows (beginning_row b f) fs ∙ begun_row b f

closure_unlisted : (located : Bool) (m : Making) → (with_closure located m).terminals ≡ m.terminals
closure_unlisted true m = refl
closure_unlisted false m = refl

source_unlisted : (located : Bool) (m : Making) (o : Option Form) → (sourced located m o).terminals ≡ m.terminals
source_unlisted located m None = closure_unlisted located m
source_unlisted located m (Some parser) = either (λ (n : Making). n.terminals ≡ m.terminals) (is_interned parser) _ _ refl (closure_unlisted located m)

none_named : (texts : List (List ℕ)) (ns : List ℕ) → ns ≡ [] → AreNamed texts ns []
none_named texts ns is = subst (λ (l : List ℕ). AreNamed texts l []) (sym is) tt

module _ (g : Grammar) where
  pops_unlisted : (n : ℕ) (types : List (List ℕ)) → AreUnlisted (pops g n types)
  unfolding pops
  pops_unlisted n [] = tt
  pops_unlisted n (ty ∷ types) = (refl, pops_unlisted (n + 1) types)

  module _ (s : Start) where
    owns_unlisted : (n : ℕ) (ps : List Production) → AreUnlisted (owns g s n ps)
    unfolding owns
    owns_unlisted n [] = tt
    owns_unlisted n (p ∷ ps) = by (is_called g s p) (owns_unlisted (n + 1) ps)
      where
        by : (b : Bool) → AreUnlisted (owns g s (n + 1) ps) → AreUnlisted (one_own g s b n p ++ owns g s (n + 1) ps)
        by true h = (refl, h)
        by false h = h

module _ (g : Grammar) (states : List Lr1State) (s : Start) where
  abbrev ahead : List Form
  ahead = rows_before g states s ++ goto_function g states ∷ []

  abbrev behind : List Form
  behind =
      expected_lines g states ∷ expected_list g states ∷ definition g ∷ implementation g states s ∷ token_numbers g ∷ token_symbols g
      ∷ simulation g states s ∷ table_parser g s (drive_call g) ∷ acceptance g states ∷ reduce_function g states s ∷ leaf part.Mismatch [] ∷ reductions_after g states s

  opened : Unit {0}
  unfolding symbol_values action_table end_table goto_function expected_list definition implementation token_numbers token_symbols simulation acceptance reduce_function
  opened = tt

  ahead_unlisted : AreUnlisted ahead
  unfolding opened
  ahead_unlisted = (refl, (refl, (lookup_is g states s (λ f. is_a part.TerminalList f ≡ false) (λ t n. refl) (λ t n. refl), (refl, (refl, tt)))))

  behind_unlisted : AreUnlisted behind
  unfolding opened
  behind_unlisted = (refl, (refl, (refl, (refl, (refl, (refl, (refl, (parser_is g states s (λ f. is_a part.TerminalList f ≡ false) (λ b h e. by_both (λ b. is_a part.TerminalList (over (parser_part false b) h e) ≡ false) refl refl b), (refl, (refl, (refl, unlisted-append (pops g 0 (variant_types_shown g)) (owns g s 0 (productions_of g)) (pops_unlisted g 0 (variant_types_shown g)) (owns_unlisted g s 0 (productions_of g)))))))))))))

  -- the row of the terminals
  terminals_row : (t : Promising) → (module_row t (terminal_names g)).made ≡ view.over with_terminal t.made (name_forms (flat_map terminal_name (terminals_of g)))
  unfolding terminal_lines
  terminals_row t =
      let names = flat_map terminal_name (terminals_of g) in
      let r = names_flat names in
      ap (view.over with_terminal t.made) (ap (λ below. parts_of (over part.TerminalList [] below)) r.0 ∙ parts_over part.TerminalList [] (name_forms names) r.1)

  rows_listed : (m : Making) → m.terminals ≡ [] → (let n = (module_rows m (over part.TableItems [] (table_items g states s))).made in AreNamed n.texts n.terminals (flat_map terminal_name (terminals_of g)))
  rows_listed m none =
      let names = flat_map terminal_name (terminals_of g) in
      let s0 = promising_of [] m in
      let s1 = view.over module_row s0 ahead in
      let s2 = module_row s1 (terminal_names g) in
      let s3 = view.over module_row s2 behind in
      let first = unlisted_rows s0 ahead ahead_unlisted in
      let later = unlisted_rows s2 behind behind_unlisted in
      let named : AreNamed s2.made.texts s2.made.terminals names =
      subst (λ (n : Making). AreNamed n.texts n.terminals names) (sym (terminals_row s1)) (names_made s1.made [] names (none_named s1.made.texts s1.made.terminals (first.terminals ∙ none))) in
      let whole : module_rows m (over part.TableItems [] (table_items g states s)) ≡ s3 =
      ap (view.over module_row s0) (item_rows g states s ∙ sym (append_assoc (rows_before g states s) (goto_function g states ∷ []) (terminal_names g ∷ behind))) ∙ over-append module_row s0 ahead (terminal_names g ∷ behind) in
      subst (λ (t : Promising). AreNamed t.made.texts t.made.terminals names) (sym whole)
      (subst (λ (texts : List (List ℕ)). AreNamed texts s3.made.terminals names) (sym later.texts) (subst (λ (ns : List ℕ). AreNamed s2.made.texts ns names) (sym later.terminals) named))

  -- the terminals of all that is made have their names
  pub terminals_made : (prefix : List ℕ) (program : Form) → (let last = complete prefix program (over part.TableItems [] (table_items g states s)) in AreNamed last.texts last.terminals (flat_map terminal_name (terminals_of g)))
  unfolding complete
  terminals_made prefix program =
      let items = over part.TableItems [] (table_items g states s) in
      let names = flat_map terminal_name (terminals_of g) in
      let b = beginning (unmade prefix) program in
      let m = with_source items b.located b.actions.made in
      let t = module_rows m items in
      let all = all_made t.made t.promises in
      let last = actions_made all b.actions.promises in
      let none : m.terminals ≡ [] = source_unlisted b.located b.actions.made (parser_of items) ∙ begun_rows (beginning_of false [] (unmade prefix)) (parts_of program) in
      let of_tables : AreOfTables t.promises = promised_are m (parts_of items) (subst AreNoAscent (sym (item_rows g states s)) (plain-append (rows_before g states s) (goto_function g states ∷ rows_after g states s) (before_plain g states s) (goto_plain g states s, after_plain g states s))) in
      let grown = grown_both t.made all last (all_grown t.made t.promises of_tables) (actions_grown all b.actions.promises) in
      let same : last.terminals ≡ t.made.terminals = actions_list all b.actions.promises ∙ terminals_stay t.made t.promises of_tables in
      subst (λ (ns : List ℕ). AreNamed last.texts ns names) (sym same)
      (subst (λ (texts : List (List ℕ)). AreNamed texts t.made.terminals names) (sym grown.texts.1) (named_more t.made.texts grown.texts.0 t.made.terminals names (rows_listed m none)))
