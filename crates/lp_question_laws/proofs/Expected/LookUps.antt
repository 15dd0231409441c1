-- The functions of the built module that a trial asks: each call is one step, and gives what the tables have.
use Rattle.std.proofs.Common.{◌≡◌, ℕ, ◌+◌, ◌*◌, ◌<◌, ◌^◌, ℤ, pos, List, [], ◌∷◌, length, Option, Some, refl, sym, ap, ◌∙◌, subst, arith, codes}
use Rattle.std.specs.Prelude.{slice_get, ◌==◌}
use Rattle.std.specs.Option.{option_map}
use Rattle.std.proofs.lemmas.List.{length-map}
use Rattle.std.proofs.lemmas.Option.{slice_get-map, slice_get_within}
use Rattle.lp_repr.specs.Numbering.{nonterminals_of, productions_of, terminals_of}
use Rattle.lp_repr.specs.ValidTables.{IsValidTables}
use Rattle.lp_repr.specs.declared.lr1.Lr1State.{Lr1State}
use Rattle.lp_repr.specs.declared.lr1.Token.TheVariants.{Terminal}
use Rattle.lp_repr.specs.declared.repr.Grammar.{Grammar}
use Rattle.lp_repr.specs.declared.repr.Production.{Production}
use Rattle.lp_form.specs.declared.part.Part.TheVariants as part
use Rattle.lp_build.specs.Built as built
use Rattle.lp_core.specs.declared.expr.Function.{Function}
use Rattle.lp_core.specs.declared.value.StateType.{StateType}
use Rattle.lp_core.specs.Numbers.{number, index, fitting}
use Rattle.lp_machine.specs.Lookup.{act_at, goto_at}
use Rattle.lp_parts.specs.Entries.{action_entries}
use Rattle.lp_state_parts.specs.GotoLaw.{answer}
use Rattle.lp_maker.specs.declared.methods.Methods.{Methods}
use Rattle.lp_maker.specs.Making.{Making}
use Rattle.lp_maker.specs.Texts.{state_type_of}
use Rattle.lp_bodies.specs.Tables as bodies
use Rattle.lp_bodies.specs.Tables.{goto_of}
use Rattle.lp_bodies.specs.Trials.{simulate_function}
use Rattle.lp_table.specs.MachineLines.{reduced_of, simulation}
use Rattle.lp_table.specs.Starts.{Start, state_text}
use Rattle.lp_table.specs.TableLines as lines
use Rattle.lp_table.specs.TableLines.{action_lookup}
use Rattle.lp_turns.specs.Asking.{Asking}
use Rattle.lp_view.specs.PartLists.{Form}
use Rattle.lp_run.specs.Entered.{module_made}
use Rattle.lp_run.specs.Functions.{function_made}
use Rattle.lp_code_laws.specs.Ends.Ends.{Enter, Giving, EndsIn}
use Rattle.lp_turn_laws.specs.Alike.Answered.{entry}
use Rattle.lp_question_laws.proofs.Gotos.Goto.{Counts, answers, in_range, same_goto}
use Rattle.lp_question_laws.proofs.Gotos.GotoAnswered.{built_items}
use Rattle.lp_question_laws.proofs.Gotos.GotoCode.{IsState, gotos_at}
use Rattle.lp_question_laws.proofs.Gotos.GotoData.{GotosAre, column_gotos_are}
use Rattle.lp_question_laws.proofs.Gotos.GotoRun.{goto_called}
use Rattle.lp_question_laws.proofs.Gotos.LinkHeaders.{IsWordy}
use Rattle.lp_question_laws.proofs.Gotos.LinkModule.{RowMade, row_function, row_made}
use Rattle.lp_question_laws.proofs.Gotos.LinkTable.{action_declared, goto_declared, items_driven, simulation_declared, tables_made}
use Rattle.lp_question_laws.proofs.Gotos.Simulate.{AllSmall, answer_val, reductions, simulate_called}
use Rattle.lp_question_laws.proofs.Gotos.StateTypes.{Numbers, numbers_of}
use Rattle.lp_question_laws.proofs.Tables.Built.{RunsBuilt, actions_there, is_made, last, lookup_is, one_or_more, row_by}
use Rattle.lp_question_laws.proofs.Tables.Entries.{action_at}
use Rattle.lp_question_laws.proofs.Tables.Looks.{entry_found, look_code}
use Rattle.lp_question_laws.proofs.Expected.Lines.{GivesAtOnce}

-- the printed type of states
abbrev pub types_of : (g : Grammar) (states : List Lr1State) → Counts g states → Numbers (state_text g states) (length states) (length (productions_of g))
types_of g states counts = numbers_of (length states) (length (productions_of g)) counts.states_fit counts.productions_fit

-- a function of a row of the module, under its name's number
pub record HasRow {prefix : List ℕ} {program : Form} {g : Grammar} {states : List Lr1State} {st : Start} {asked : Asking} {methods : Methods} (runs : RunsBuilt prefix program g states st asked methods) (name : List ℕ) (form : Form) : Type 0 where
  pub row : RowMade prefix (last runs) name form
  pub there : slice_get asked.program.functions row.number ≡ Some (function_made row.maker form).function

module _ {prefix : List ℕ} {program : Form} {g : Grammar} {states : List Lr1State} {st : Start} {asked : Asking} {methods : Methods} (runs : RunsBuilt prefix program g states st asked methods) where
  pub has_row : (name : List ℕ) (form : Form) → RowMade prefix (last runs) name form → HasRow runs name form
  has_row name form r = record {
    row = r;
    there = ap (λ (fs : List Function). slice_get fs r.number) runs.functions ∙ row_function prefix (module_made prefix program (built_items g states st)) (last runs) (items_driven g states st).machine form name (is_made runs) r;
  }

  pub action_row : HasRow runs (codes "action") (action_lookup g states)
  action_row = has_row (codes "action") (action_lookup g states) (row_made prefix program (built_items g states st) (action_lookup g states) (codes "action") [] (action_declared g states st))

  pub goto_row : HasRow runs (codes "goto") (lines.goto_function g states)
  goto_row = has_row (codes "goto") (lines.goto_function g states) (row_made prefix program (built_items g states st) (lines.goto_function g states) (codes "goto") [] (goto_declared g states st))

  pub simulation_row : HasRow runs (codes "simulate_reduce") (simulation g states st)
  simulation_row = has_row (codes "simulate_reduce") (simulation g states st) (row_made prefix program (built_items g states st) (simulation g states st) (codes "simulate_reduce") [] (simulation_declared g states st))

  module _ (kind : StateType) (typed_so : state_type_of (state_text g states) ≡ Some kind) where
    -- the look-up of actions
    pub action_gives : (q i : ℕ) (s : Lr1State) → slice_get states q ≡ Some s → i < length (terminals_of g) → length (terminals_of g) < 2 ^ 64 → length (action_entries (length (terminals_of g)) states) < 2 ^ 64
        → fitting kind (entry (act_at states q (Terminal i))) ≡ Some (entry (act_at states q (Terminal i))) → GivesAtOnce asked.program action_row.row.number (number kind (pos q) ∷ index i ∷ []) (number kind (entry (act_at states q (Terminal i))))
    action_gives q i s at below few counted fits m =
        let n = length (terminals_of g) in
        let e = entry (act_at states q (Terminal i)) in
        let r = action_row.row in
        let table = actions_there runs in
        let place = action_at states n q i s at below in
        let within : q * n + i < length (action_entries n states) = slice_get_within (action_entries n states) (q * n + i) e place in
        let found = entry_found asked.program 0 (q * n + i) table.table kind e table.there (table.typed_so ∙ typed_so) (ap (λ (l : List ℤ). slice_get l (q * n + i)) table.holds ∙ place) fits in
        let code : slice_get asked.program.functions r.number ≡ Some (look_code 0 (row_by (n == 1) n)) =
        action_row.there ∙ ap Some (lookup_is r.maker g states) ∙ ap (λ (k : ℕ). Some (look_code k (row_by (n == 1) n))) (r.action_table ∙ (tables_made g states st prefix program).action_table) in
        one_or_more asked.program r.number q i n kind m (number kind e) (n == 1) refl below few (omega arith) code found

  goto_made : (m : Making) → (function_made m (lines.goto_function g states)).function ≡ bodies.goto_function (lines.goto_function g states)
  unfolding function_made lines.goto_function
  goto_made m = refl

  simulation_made : (m : Making) → m.prefix ≡ g.prefix → (function_made m (simulation g states st)).function ≡ simulate_function g.prefix (simulation g states st)
  unfolding function_made simulation
  simulation_made m e = ap (λ t. simulate_function t (simulation g states st)) e

  module _ (start : ℕ) (valid : IsValidTables g start states) (counts : Counts g states) where
    abbrev types : Numbers (state_text g states) (length states) (length (productions_of g))
    types = types_of g states counts

    -- the goto of a state
    pub goto_gives : (q n to : ℕ) → goto_at states q n ≡ Some to → GivesAtOnce asked.program goto_row.row.number (number types.kind (pos q) ∷ index n ∷ []) (number types.kind (pos to))
    unfolding lines.goto_function
    goto_gives q n to e m =
        let r = goto_row.row in
        let names = nonterminals_of g in
        let made : slice_get asked.program.functions r.number ≡ Some (goto_of (Some types.kind) (built.over part.GotoFn (state_text g states ∷ []) (lines.gotos_from states 0 names))) =
        goto_row.there ∙ ap Some (goto_made r.maker) ∙ ap (λ (o : Option StateType). Some (goto_of o (lines.goto_function g states))) types.read in
        let are : (k : ℕ) → GotosAre (IsState types.kind) (gotos_at states k) = λ k. column_gotos_are (IsState types.kind) k states (λ j lt. types.holds j (omega arith))
        (λ j t is. (let range = (in_range g start states valid j k t (sym (same_goto states k j) ∙ is)).1 in types.holds t (omega arith))) in
        let ends : EndsIn asked.program (Enter r.number (number types.kind (pos q) ∷ index n ∷ [])) m 1 (Giving (number types.kind (pos (answer (gotos_at states n) q))) m) =
        record { runs = λ left. goto_called asked.program types.kind states r.number q n (state_text g states) names made (types.holds 0 (omega arith)) are counts.nonterminals_fit (in_range g start states valid q n to e).0 m.store.env m.store.cells m.store.taken m.calls left } in
        subst (λ (k : ℕ). EndsIn asked.program (Enter r.number (number types.kind (pos q) ∷ index n ∷ [])) m 1 (Giving (number types.kind (pos k)) m)) (answers states n q to e) ends

    -- what the reduction of a production would do
    pub simulation_gives : (n : ℕ) (p : Production) → prefix ≡ g.prefix → IsWordy g.prefix → AllSmall (reductions g states st) → slice_get (productions_of g) n ≡ Some p
        → GivesAtOnce asked.program simulation_row.row.number (number types.kind (pos n) ∷ []) (answer_val (reduced_of g st p))
    simulation_gives n p same w small at m =
        let r = simulation_row.row in
        let there : slice_get asked.program.functions r.number ≡ Some (simulate_function g.prefix (simulation g states st)) = simulation_row.there ∙ ap Some (simulation_made r.maker (r.same ∙ same)) in
        let count : length (reductions g states st) ≡ length (productions_of g) = length-map (productions_of g) (reduced_of g st) in
        let fit = counts.productions_fit in
        let reduced : slice_get (reductions g states st) n ≡ Some (reduced_of g st p) = slice_get-map (reduced_of g st) (productions_of g) n ∙ ap (option_map (reduced_of g st)) at in
        record { runs = λ left. simulate_called g states st asked.program types.kind r.number n left (reduced_of g st p) w small (omega arith) there reduced m.store.env m.store.cells m.store.taken m.calls }
