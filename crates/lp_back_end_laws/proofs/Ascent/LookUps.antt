-- The functions that a trial asks, in a program of recursive ascent: each call is one step, and gives what the tables have.
use Rattle.std.proofs.Common.{◌≡◌, ℕ, zero, suc, ◌+◌, ◌*◌, ◌<◌, ◌≤◌, ◌^◌, ℤ, pos, List, [], ◌∷◌, length, map, All, Option, Some, None, refl, sym, ap, ◌∙◌, subst, arith, codes}
use Rattle.std.specs.Prelude.{slice_get, ◌==◌}
use Rattle.std.specs.BTreeMap.{values}
use Rattle.std.specs.Option.{option_map}
use Rattle.std.proofs.lemmas.List.{length-map}
use Rattle.std.proofs.lemmas.Option.{get_or_from_slice_get, slice_get-map, slice_get_within}
use Rattle.lp_repr.specs.Numbering.{nonterminals_of, productions_of, terminals_of}
use Rattle.lp_repr.specs.ValidTables.{IsValidTables}
use Rattle.lp_repr.specs.declared.lr1.Lr1State.{Lr1State}
use Rattle.lp_repr.specs.declared.lr1.Token.TheVariants as lr
use Rattle.lp_repr.specs.declared.repr.Grammar.{Grammar}
use Rattle.lp_repr.specs.declared.repr.Production.{Production}
use Rattle.lp_form.specs.declared.part.Part.TheVariants as part
use Rattle.lp_build.specs.Built as built
use Rattle.lp_core.specs.declared.expr.Table.{Table}
use Rattle.lp_core.specs.declared.value.StateType.{StateType}
use Rattle.lp_core.specs.Numbers.{number, index, fitting}
use Rattle.lp_core.specs.Store.{Program}
use Rattle.lp_core.specs.Val.{Val}
use Rattle.lp_driver.specs.declared.answers.Expecting.TheVariants.{Trial}
use Rattle.lp_driver.specs.Values.{Text}
use Rattle.lp_machine.specs.declared.lookup.KnownTerminal.{KnownTerminal}
use Rattle.lp_machine.specs.declared.lookup.Rule.{Rule}
use Rattle.lp_machine.specs.GrammarTables.{grammar_tables, known_among}
use Rattle.lp_machine.specs.Lookup.{act_at, goto_at}
use Rattle.lp_machine.specs.Tables.{Tables}
use Rattle.lp_parts.specs.Entries.{action_entries}
use Rattle.lp_state_parts.specs.GotoLaw.{answer}
use Rattle.lp_maker.specs.Making.{Making, Entries, entries_of}
use Rattle.lp_maker.specs.Texts as maker
use Rattle.lp_bodies.specs.Tables as bodies
use Rattle.lp_bodies.specs.Tables.{goto_of, printed_table}
use Rattle.lp_ascent_bodies.specs.AscentTrials.{ascent_simulate}
use Rattle.lp_ascent.specs.BuiltAscent.{trial_lines}
use Rattle.lp_table.specs.MachineLines.{reduced_of}
use Rattle.lp_table.specs.Starts.{Start, state_text}
use Rattle.lp_table.specs.TableLines as lines
use Rattle.lp_table.specs.TableLines.{action_lookup, action_table}
use Rattle.lp_valid.specs.ValidGrammar.{IsValidGrammar}
use Rattle.lp_view.specs.PartLists.{Form}
use Rattle.lp_run.specs.RunTold.{IsCounted}
use Rattle.lp_run.specs.Functions.{function_made}
use Rattle.lp_code_laws.specs.Ends.Ends.{Enter, Giving, EndsIn}
use Rattle.lp_turn_laws.specs.Alike.Answered.{entry}
use Rattle.lp_turn_laws.specs.Paths.Over.{IsOver}
use Rattle.lp_turn_laws.proofs.Paths.MachineRules.{agree}
use Rattle.lp_turn_laws.proofs.Paths.Over.{is_over}
use Rattle.lp_turn_laws.proofs.Paths.Reductions.{at_within}
use Rattle.lp_question_laws.proofs.Gotos.Goto.{Counts, answers, found, in_range, same_goto}
use Rattle.lp_question_laws.proofs.Gotos.GotoCode.{IsState, gotos_at}
use Rattle.lp_question_laws.proofs.Gotos.GotoData.{GotosAre, column_gotos_are}
use Rattle.lp_question_laws.proofs.Gotos.GotoRun.{goto_called}
use Rattle.lp_question_laws.proofs.Gotos.Simulate.{AllSmall, reductions}
use Rattle.lp_question_laws.proofs.Gotos.StateTypes.{Numbers}
use Rattle.lp_question_laws.proofs.Tables.Built.{lookup_is, one_or_more, row_by}
use Rattle.lp_question_laws.proofs.Tables.Entries.{action_at}
use Rattle.lp_question_laws.proofs.Tables.Fields.{top_within}
use Rattle.lp_question_laws.proofs.Tables.Fits.{entry_fits}
use Rattle.lp_question_laws.proofs.Tables.Looks.{entry_found, look_code}
use Rattle.lp_question_laws.proofs.Tables.Terminals.{known_few}
use Rattle.lp_question_laws.proofs.Expected.Lines.{GivesAtOnce, less}
use Rattle.lp_question_laws.proofs.Expected.LookUps.{types_of}
use Rattle.lp_question_laws.proofs.Expected.Rules.{is_of, simulated_is}
use Rattle.lp_back_end_laws.proofs.Call.Trials.{HasLookUps}
use Rattle.lp_back_end_laws.proofs.Ascent.Runs.{RunsAscent}
use Rattle.lp_back_end_laws.proofs.Ascent.Linking.{Told}
use Rattle.lp_back_end_laws.proofs.Ascent.ModuleTables.{tables_told}
use Rattle.lp_back_end_laws.proofs.Ascent.NamedRows.{action_told, goto_told, simulate_told}
use Rattle.lp_back_end_laws.proofs.Ascent.StartRow.{ascent_made}
use Rattle.lp_back_end_laws.proofs.Ascent.TrialReductions.{told_alike, trial_called, trial_val}
use Rattle.lp_back_end_laws.proofs.Ascent.Having.{function_there, whole}

-- a program's table of this number
record HasTable (p : Program) (n : ℕ) (kind : Option StateType) (entries : List ℤ) : Type 0 where
  table : Table
  there : slice_get p.tables n ≡ Some table
  typed_so : table.entry_type ≡ kind
  holds : table.entries.items ≡ entries

table_in : (p : Program) (n : ℕ) (e : Entries) (o : Option Table) → slice_get p.tables n ≡ o → option_map entries_of o ≡ Some e → HasTable p n e.kind e.numbers
table_in p n e None is h = absurd cc
table_in p n e (Some table) is h =
    let same : entries_of table ≡ e = cc in
    record { table = table; there = is; typed_so = ap (λ (x : Entries). x.kind) same; holds = ap (λ (x : Entries). x.numbers) same }

module _ {prefix : List ℕ} {program : Form} {g : Grammar} {states : List Lr1State} {st : Start} {p : Program} (runs : RunsAscent prefix program g states st p) (counts : Counts g states) where
  abbrev types : Numbers (state_text g states) (length states) (length (productions_of g))
  types = types_of g states counts

  abbrev kind : StateType
  kind = types.kind

  abbrev pub action_row : Told prefix (whole runs) (codes "action") (action_lookup g states)
  action_row = action_told g states st prefix program

  abbrev pub goto_row : Told prefix (whole runs) (codes "goto") (lines.goto_function g states)
  goto_row = goto_told g states st prefix program

  abbrev pub simulate_row : Told prefix (whole runs) (codes "simulate") (trial_lines g states st)
  simulate_row = simulate_told g states st prefix program

  -- ---- actions
  actions_there : HasTable p 0 (maker.state_type_of (state_text g states)) (action_entries (length (terminals_of g)) states)
  unfolding action_table
  actions_there =
      let told = tables_told g states st prefix program in
      let tables : map entries_of p.tables ≡ printed_table (action_table g states) ∷ [] = runs.tables ∙ (ascent_made g states st prefix program).tables ∙ told.tables in
      table_in p 0 (printed_table (action_table g states)) (slice_get p.tables 0) refl (sym (slice_get-map entries_of p.tables 0) ∙ ap (λ (l : List Entries). slice_get l 0) tables)

  -- the table's entries are as many as a run may have
  pub entries_counted : All IsCounted p.tables → length (action_entries (length (terminals_of g)) states) < 2 ^ 64
  entries_counted all =
      let t = actions_there in
      let counted : IsCounted t.table = subst IsCounted (get_or_from_slice_get p.tables 0 t.table t.table t.there) (all 0 t.table (slice_get_within p.tables 0 t.table t.there)) in
      subst (λ (es : List ℤ). length es < 2 ^ 64) t.holds counted

  pub action_gives : (q i : ℕ) (s : Lr1State) → slice_get states q ≡ Some s → i < length (terminals_of g) → length (terminals_of g) < 2 ^ 64 → length (action_entries (length (terminals_of g)) states) < 2 ^ 64
      → fitting kind (entry (act_at states q (lr.Terminal i))) ≡ Some (entry (act_at states q (lr.Terminal i))) → GivesAtOnce p action_row.number (number kind (pos q) ∷ index i ∷ []) (number kind (entry (act_at states q (lr.Terminal i))))
  action_gives q i s at below few counted fits m =
      let n = length (terminals_of g) in
      let e = entry (act_at states q (lr.Terminal i)) in
      let r = action_row in
      let place = action_at states n q i s at below in
      let table = actions_there in
      let within : q * n + i < length (action_entries n states) = slice_get_within (action_entries n states) (q * n + i) e place in
      let found = entry_found p 0 (q * n + i) table.table kind e table.there (table.typed_so ∙ types.read) (ap (λ (l : List ℤ). slice_get l (q * n + i)) table.holds ∙ place) fits in
      let code : slice_get p.functions r.number ≡ Some (look_code 0 (row_by (n == 1) n)) =
      function_there runs r.number _ r.there ∙ ap Some (lookup_is r.maker g states) ∙ ap (λ (k : ℕ). Some (look_code k (row_by (n == 1) n))) (sym r.stays.action_table ∙ (tables_told g states st prefix program).action_table) in
      one_or_more p r.number q i n kind m (number kind e) (n == 1) refl below few (omega (arith, within, counted)) code found

  -- ---- gotos
  goto_made : (m : Making) → (function_made m (lines.goto_function g states)).function ≡ bodies.goto_function (lines.goto_function g states)
  unfolding function_made lines.goto_function
  goto_made m = refl

  pub goto_gives : (start : ℕ) → IsValidTables g start states → (q n to : ℕ) → goto_at states q n ≡ Some to → GivesAtOnce p goto_row.number (number kind (pos q) ∷ index n ∷ []) (number kind (pos to))
  unfolding lines.goto_function
  goto_gives start valid q n to e m =
      let r = goto_row in
      let names = nonterminals_of g in
      let made : slice_get p.functions r.number ≡ Some (goto_of (Some kind) (built.over part.GotoFn (state_text g states ∷ []) (lines.gotos_from states 0 names))) =
      function_there runs r.number _ r.there ∙ ap Some (goto_made r.maker) ∙ ap (λ (o : Option StateType). Some (goto_of o (lines.goto_function g states))) types.read in
      let are : (k : ℕ) → GotosAre (IsState kind) (gotos_at states k) = λ k. column_gotos_are (IsState kind) k states (λ j lt. types.holds j (omega (arith, lt)))
      (λ j t is. (let range = (in_range g start states valid j k t (sym (same_goto states k j) ∙ is)).1 in types.holds t (omega (arith, range)))) in
      let ends : EndsIn p (Enter r.number (number kind (pos q) ∷ index n ∷ [])) m 1 (Giving (number kind (pos (answer (gotos_at states n) q))) m) =
      record { runs = λ left. goto_called p kind states r.number q n (state_text g states) names made (types.holds 0 (omega arith)) are counts.nonterminals_fit (in_range g start states valid q n to e).0 m.store.env m.store.cells m.store.taken m.calls left } in
      subst (λ (k : ℕ). EndsIn p (Enter r.number (number kind (pos q) ∷ index n ∷ [])) m 1 (Giving (number kind (pos k)) m)) (answers states n q to e) ends

  -- ---- simulated reductions
  simulate_made : (m : Making) → (function_made m (trial_lines g states st)).function ≡ ascent_simulate (trial_lines g states st)
  unfolding function_made trial_lines
  simulate_made m = refl

  pub simulate_gives : (n : ℕ) (production : Production) → AllSmall (reductions g states st) → slice_get (productions_of g) n ≡ Some production → GivesAtOnce p simulate_row.number (number kind (pos n) ∷ []) (trial_val (reduced_of g st production))
  simulate_gives n production small at m =
      let r = simulate_row in
      let there : slice_get p.functions r.number ≡ Some (ascent_simulate (trial_lines g states st)) = function_there runs r.number _ r.there ∙ ap Some (simulate_made r.maker) in
      let count : length (reductions g states st) ≡ length (productions_of g) = length-map (productions_of g) (reduced_of g st) in
      let fit = counts.productions_fit in
      let reduced : slice_get (reductions g states st) n ≡ Some (reduced_of g st production) = slice_get-map (reduced_of g st) (productions_of g) n ∙ ap (option_map (reduced_of g st)) at in
      record { runs = λ left. trial_called g states st p kind r.number n left (reduced_of g st production) small (omega (arith, count, fit)) there reduced m.store.env m.store.cells m.store.taken m.calls }

  -- ---- all that a trial asks
  module _ {start : ℕ} (grammar : IsValidGrammar g) (valid : IsValidTables g start states) (starts : start < length g.start_nonterminals.entries) (begins : slice_get (values g.start_nonterminals) start ≡ Some st.nonterminal)
      (params : List Text) (failing : List ℕ) (small : AllSmall (reductions g states st)) (terminals_fit : length (terminals_of g) < 2 ^ 64) (entries_fit_all : length (action_entries (length (terminals_of g)) states) < 2 ^ 64) where
    abbrev pub tables : Tables
    tables = grammar_tables g states Trial params failing

    pub over : IsOver g start states tables
    over = is_over g start states Trial params failing grammar valid starts

    as_many : length tables.names ≤ length (terminals_of g)
    as_many = omega (arith, length-map (known_among g (terminals_of g)) (λ (k : KnownTerminal). k.name), known_few g (terminals_of g))

    production_number : (n : ℕ) (rule : Rule) → tables.rule n ≡ Some rule → n < length (productions_of g)
    production_number n rule is =
        let o = is_of g grammar n _ (agree g grammar n rule (sym (over.known.rule n) ∙ is)).at in
        slice_get_within (productions_of g) n o.production o.at

    one_less_fits : (n : ℕ) → n < length (productions_of g) → fitting kind (less n) ≡ Some (less n)
    one_less_fits zero lt = (types.rules 0 (omega arith)).fits
    one_less_fits (suc n) lt = types.entries n (omega (arith, lt))

    pub looks_up : HasLookUps p kind states tables action_row.number simulate_row.number goto_row.number
    looks_up = record {
      holds = λ stack q path top. (let lt = top_within g start states valid valid.some_state stack q path top in (types.holds q (omega (arith, lt))).fits);
      acts = λ stack q i path top below.
          (let lt = top_within g start states valid valid.some_state stack q path top in
          let s = at_within states q lt in
          let few : i < length (terminals_of g) = omega (arith, below, as_many) in
          action_gives q i s.0 s.1 few terminals_fit entries_fit_all (entry_fits g start states valid types q s.0 s.1 (lr.Terminal i)));
      numbers = λ n rule is. (let lt = production_number n rule is in (one_less_fits n lt, (types.rules n (omega (arith, lt))).fits));
      simulates = λ stack q i n rule path top is at.
          (let s = simulated_is over st begins stack q i n rule path top is at in
          subst (λ (v : Val). GivesAtOnce p simulate_row.number (number kind (pos n) ∷ []) v) (told_alike (reduced_of g st s.0) rule s.2) (simulate_gives n s.0 small s.1));
      leads = λ q n to is. (let lt = (found states q n to is).within in ((types.holds q (omega (arith, lt))).fits, goto_gives start valid q n to is));
    }
