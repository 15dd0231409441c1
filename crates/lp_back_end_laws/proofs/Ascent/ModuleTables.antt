-- The table of actions and the names of terminals, of all that is made of recursive ascent.
use Rattle.std.proofs.Common.{◌≡◌, ℕ, ◌+◌, List, [], ◌∷◌, ◌++◌, length, Option, Some, None, refl, ap, sym, subst, ◌∙◌, codes}
use Rattle.std.specs.List.{flat_map}
use Rattle.lp_form.specs.declared.part.Part.TheVariants as part
use Rattle.lp_repr.specs.Numbering.{terminals_of}
use Rattle.lp_repr.specs.declared.lr1.Lr1State.{Lr1State}
use Rattle.lp_repr.specs.declared.repr.Grammar.{Grammar}
use Rattle.lp_build.specs.Built.{over}
use Rattle.lp_table.specs.Starts.{Start}
use Rattle.lp_table.specs.TableLines.{action_lookup, action_table, goto_function, terminal_lines, terminal_name, terminal_names}
use Rattle.lp_view.specs.PartLists.{Form, parts_of}
use Rattle.lp_view.specs.PartLists as view
use Rattle.lp_maker.specs.Making.{Making, Entries}
use Rattle.lp_bodies.specs.Tables.{printed_table, with_terminal}
use Rattle.lp_run.specs.Named.{parser_of}
use Rattle.lp_run.specs.Promised.{Promising, promising_of, module_row}
use Rattle.lp_question_laws.proofs.Gotos.GotoCode.{over-append}
use Rattle.lp_question_laws.proofs.Gotos.LinkModule.{complete}
use Rattle.lp_question_laws.proofs.Gotos.LinkTerminals.{AreNamed, name_forms, named_more, names_flat, names_made}
use Rattle.lp_question_laws.proofs.Gotos.Whole.{parts_over}
use Rattle.lp_ascent.specs.AnswerLines.{answer_lines}
use Rattle.lp_agreement.proofs.Composed.AscentModules.{ascent_form, item_rows}
use Rattle.lp_back_end_laws.proofs.Ascent.Begins.{starts, source_supplies}
use Rattle.lp_back_end_laws.proofs.Ascent.Rows.{AreRows, RowIs}
use Rattle.lp_back_end_laws.proofs.Ascent.AscentRows.{state_names, state_rows}
use Rattle.lp_back_end_laws.proofs.Ascent.ModuleRows.{all_are, all_names, all_rows, answer_row, goto_row, lookup_row, own_states, parser_row, table_rows, trials_are, trial_rows, trial_names}
use Rattle.lp_back_end_laws.proofs.Ascent.Linking.{begins, promised_stays, sourced}

-- rows that declare make neither
record Keeps (s t : Promising) : Type 0 where
  tables : t.made.tables ≡ s.made.tables
  action_table : t.made.action_table ≡ s.made.action_table
  terminals : t.made.terminals ≡ s.made.terminals
  texts : t.made.texts ≡ s.made.texts

keeps_same : (s : Promising) → Keeps s s
keeps_same s = record { tables = refl; action_table = refl; terminals = refl; texts = refl }

keeps_both : (s t u : Promising) → Keeps s t → Keeps t u → Keeps s u
keeps_both s t u f g = record { tables = g.tables ∙ f.tables; action_table = g.action_table ∙ f.action_table; terminals = g.terminals ∙ f.terminals; texts = g.texts ∙ f.texts }

declared_keeps : (s : Promising) (f : Form) (q : List ℕ) → RowIs f (Some q) → Keeps s (module_row s f)
declared_keeps s f q h = subst (Keeps s) (sym (h.0 s)) (record { tables = refl; action_table = refl; terminals = refl; texts = refl })

abbrev AllDeclare : List (Option (List ℕ)) → Type 0
AllDeclare [] = Unit {0}
AllDeclare (None ∷ ns) = ⊥
AllDeclare (Some q ∷ ns) = AllDeclare ns

all_keep : (s : Promising) (fs : List Form) (ns : List (Option (List ℕ))) → AreRows fs ns → AllDeclare ns → Keeps s (view.over module_row s fs)
all_keep s [] [] a d = keeps_same s
all_keep s [] (n ∷ ns) a d = absurd a
all_keep s (f ∷ fs) [] a d = absurd a
all_keep s (f ∷ fs) (None ∷ ns) a d = absurd d
all_keep s (f ∷ fs) (Some q ∷ ns) a d = keeps_both s (module_row s f) (view.over module_row (module_row s f) fs) (declared_keeps s f q a.0) (all_keep (module_row s f) fs ns a.1 d)

states_declare : (g : Grammar) (states : List Lr1State) (n : ℕ) (ss : List Lr1State) → AllDeclare (state_names g states n ss)
states_declare g states n [] = tt
states_declare g states n (s ∷ ss) = states_declare g states (n + 1) ss

-- the tables of all that was made
pub record TablesTold (g : Grammar) (states : List Lr1State) (last : Making) : Type 0 where
  pub tables : last.tables ≡ printed_table (action_table g states) ∷ []
  pub action_table : last.action_table ≡ 0
  pub named : AreNamed last.texts last.terminals (flat_map terminal_name (terminals_of g))

none_named : (texts : List (List ℕ)) (ns : List ℕ) → ns ≡ [] → AreNamed texts ns []
none_named texts ns is = subst (λ (l : List ℕ). AreNamed texts l []) (sym is) tt

module _ (g : Grammar) (states : List Lr1State) (st : Start) where
  terminals_are : (t : Promising) → (module_row t (terminal_names g)).made ≡ view.over with_terminal t.made (name_forms (flat_map terminal_name (terminals_of g)))
  unfolding terminal_lines
  terminals_are t =
      let names = flat_map terminal_name (terminals_of g) in
      let r = names_flat names in
      ap (view.over with_terminal t.made) (ap (λ below. parts_of (over part.TerminalList [] below)) r.0 ∙ parts_over part.TerminalList [] (name_forms names) r.1)

  table_is : (t : Promising) → (module_row t (action_table g states)).made ≡ (record t.made { tables = t.made.tables ++ printed_table (action_table g states) ∷ []; action_table = length t.made.tables })
  unfolding action_table
  table_is t = refl

  terminals_keep : (m : Making) (fs : List Form) → ((view.over with_terminal m fs).tables ≡ m.tables) × ((view.over with_terminal m fs).action_table ≡ m.action_table)
  terminals_keep m [] = (refl, refl)
  terminals_keep m (f ∷ fs) = terminals_keep (with_terminal m f) fs

  module _ (m : Making) (no_tables : m.tables ≡ []) (no_terminals : m.terminals ≡ []) where
    abbrev s0 : Promising
    s0 = promising_of [] m

    abbrev s1 : Promising
    s1 = view.over module_row s0 (own_states g states st)

    abbrev s2 : Promising
    s2 = module_row s1 (action_table g states)

    abbrev s3 : Promising
    s3 = module_row (module_row s2 (action_lookup g states)) (goto_function g states)

    abbrev s4 : Promising
    s4 = module_row s3 (terminal_names g)

    abbrev s5 : Promising
    s5 = view.over module_row s4 (trial_rows g states st)

    first : Keeps s0 s1
    first = all_keep s0 (own_states g states st) (state_names g states 0 states) (state_rows g states 0 states) (states_declare g states 0 states)

    second : Keeps s2 s3
    second =
        let mid = module_row s2 (action_lookup g states) in
        keeps_both s2 mid s3 (declared_keeps s2 (action_lookup g states) (codes "action") (lookup_row g states st)) (declared_keeps mid (goto_function g states) (codes "goto") (goto_row g states st))

    third : Keeps s4 s5
    third = all_keep s4 (trial_rows g states st) (trial_names g states st) (trials_are g states st) tt

    whole : view.over module_row s0 (all_rows g states st) ≡ s5
    whole =
        ap (λ (t : Promising). view.over module_row t (own_states g states st ++ (table_rows g states st ++ trial_rows g states st))) (ap (λ (t : Promising). module_row t (answer_lines g)) (parser_row g states st s0) ∙ answer_row g states st s0)
        ∙ over-append module_row s0 (own_states g states st) (table_rows g states st ++ trial_rows g states st)

    told : TablesTold g states s5.made
    told =
        let names = flat_map terminal_name (terminals_of g) in
        let list = name_forms names in
        let four = terminals_are s3 in
        let kept = terminals_keep s3.made list in
        let none : s3.made.terminals ≡ [] = second.terminals ∙ ap (λ (n : Making). n.terminals) (table_is s1) ∙ first.terminals ∙ no_terminals in
        let named : AreNamed s4.made.texts s4.made.terminals names = subst (λ (n : Making). AreNamed n.texts n.terminals names) (sym four) (names_made s3.made [] names (none_named s3.made.texts s3.made.terminals none)) in
        record {
          tables = third.tables ∙ ap (λ (n : Making). n.tables) four ∙ kept.0 ∙ second.tables ∙ ap (λ (n : Making). n.tables) (table_is s1) ∙ ap (λ (l : List Entries). l ++ printed_table (action_table g states) ∷ []) (first.tables ∙ no_tables);
          action_table = third.action_table ∙ ap (λ (n : Making). n.action_table) four ∙ kept.1 ∙ second.action_table ∙ ap (λ (n : Making). n.action_table) (table_is s1) ∙ ap length (first.tables ∙ no_tables);
          named = subst (λ (texts : List (List ℕ)). AreNamed texts s5.made.terminals names) (sym third.texts) (subst (λ (ns : List ℕ). AreNamed s4.made.texts ns names) (sym third.terminals) named);
        }

  pub tables_told : (prefix : List ℕ) (program : Form) → TablesTold g states (complete prefix program (ascent_form g states st))
  tables_told prefix program =
      let items = ascent_form g states st in
      let m = sourced prefix program items in
      let b = begins prefix program items in
      let from = source_supplies b.located b.actions.made (parser_of items) in
      let began = starts prefix program in
      let h = told m (from.tables ∙ began.tables) (from.terminals ∙ began.terminals) in
      let stays = promised_stays prefix program items (all_names g states st) (subst (λ (fs : List Form). AreRows fs (all_names g states st)) (sym (item_rows g states st)) (all_are g states st)) in
      let rows = ap (view.over module_row (promising_of [] m)) (item_rows g states st) ∙ whole m (from.tables ∙ began.tables) (from.terminals ∙ began.terminals) in
      let here : TablesTold g states (view.over module_row (promising_of [] m) (parts_of items)).made = subst (λ (t : Promising). TablesTold g states t.made) (sym rows) h in
      let last = complete prefix program items in
      record {
        tables = stays.tables ∙ here.tables;
        action_table = stays.action_table ∙ here.action_table;
        named = subst (λ (ns : List ℕ). AreNamed last.texts ns (flat_map terminal_name (terminals_of g))) (sym stays.terminals)
            (subst (λ (texts : List (List ℕ)). AreNamed texts (view.over module_row (promising_of [] m) (parts_of items)).made.terminals (flat_map terminal_name (terminals_of g))) (sym stays.texts.1) (named_more _ stays.texts.0 _ _ here.named));
      }
