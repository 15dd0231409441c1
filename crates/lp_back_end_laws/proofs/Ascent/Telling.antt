-- Recursive ascent obeys the law of a back end.
use Rattle.std.proofs.Common.{◌≡◌, ℕ, ◌+◌, ◌≤◌, List, [], ◌∷◌, length, None, Some, refl, sym, ap, ◌∙◌, subst, arith}
use Rattle.std.specs.Prelude.{slice_get}
use Rattle.std.specs.BTreeMap.{values}
use Rattle.lp_repr.specs.declared.lr1.StartStates.{StartStates}
use Rattle.lp_repr.specs.declared.repr.Grammar.{Grammar}
use Rattle.lp_repr.specs.declared.repr.LrCodeGeneration.TheVariants.{RecursiveAscent}
use Rattle.lp_repr.specs.declared.repr.NonterminalString.{NonterminalString}
use Rattle.lp_driver.specs.declared.answers.Expecting.TheVariants.{Trial}
use Rattle.lp_machine.specs.GrammarTables.{error_of}
use Rattle.lp_maker.specs.Slots.{Names, no_names}
use Rattle.lp_table.specs.Starts.{start_for}
use Rattle.lp_tree.specs.declared.tree.Program.{Program}
use Rattle.lp_run.specs.Module.{Module}
use Rattle.lp_run.specs.ParseMethod.{Parse, parameters_of}
use Rattle.lp_run.specs.ProgramRun.{by_call, parsed}
use Rattle.lp_assembly.specs.Built.{IsBuilt}
use Rattle.lp_fitting.specs.Fitting.{IsFitting}
use Rattle.lp_emitted.specs.Emittable.{IsEmittable}
use Rattle.lp_agrees.specs.Agrees.{Told}
use Rattle.lp_question_laws.proofs.Reductions.Texts.{names_of}
use Rattle.lp_question_laws.proofs.Expected.Counted.{start_begins}
use Rattle.lp_agreement.proofs.Composed.Agreement.{IsTold, prefix_wordy, valid_at}
use Rattle.lp_agreement.proofs.Composed.AscentAgreement.{told_heavy, told_more}
use Rattle.lp_agreement.proofs.Composed.ProgramWeights.{ascent_counts}
use Rattle.lp_agreement.proofs.Composed.Told.{no_error}
use Rattle.lp_agreement.proofs.Composed.TwoStates.{two_states}
use Rattle.lp_back_end_laws.specs.Filled.BackEndLaw.{RunsByTables}
use Rattle.lp_agreement.proofs.Composed.AscentModules.{ascent_form}
use Rattle.lp_agreement.proofs.Composed.Parameters.{all_bound, ascent_parameters_are, ascent_parameters_counted}
use Rattle.lp_back_end_laws.specs.Filled.InMemory.{AreStatesInMemory, IsInMemory}
use Rattle.lp_back_end_laws.specs.Filled.BackEndLaw.{AreNamedApart}
use Rattle.lp_back_end_laws.proofs.Ascent.ActionRuns.{given_by}
use Rattle.lp_back_end_laws.proofs.Ascent.Costs.{move_cost, move_is_little}
use Rattle.lp_back_end_laws.proofs.Ascent.ReadParameters.{parameters_plain}
use Rattle.std.specs.Option.{option_map}
use Rattle.std.proofs.lemmas.Option.{same_Some, slice_get-map, slice_get_within}
use Rattle.lp_repr.specs.Numbering.{nonterminals_of}
use Rattle.lp_repr.specs.ValidTables.{start_number}
use Rattle.lp_repr.specs.declared.repr.NonterminalData.{NonterminalData}
use Rattle.lp_repr.specs.declared.repr.Parameter.{Parameter}
use Rattle.lp_valid.specs.ValidGrammar.{IsValidGrammar}
use Rattle.lp_maker.specs.Slots.{bound}
use Rattle.lp_turn_laws.proofs.Paths.Names.{nonterminal_is}
use Rattle.lp_turn_laws.proofs.Paths.Starts.{start_entry}
use Rattle.lp_question_laws.specs.Reductions.Arguments.{ShowAll}
use Rattle.lp_question_laws.proofs.Reductions.Parameters.{bound_each}
use Rattle.lp_tree.specs.ProgramTree.{program_items}
use Rattle.lp_run.specs.ProgramRun.{parameters}
use Rattle.lp_back_end_laws.proofs.Call.CallLaw.{call_law}
use Rattle.lp_back_end_laws.proofs.Call.ParameterNames.{held_next, held_shown}
use Rattle.lp_back_end_laws.proofs.Call.ParseTold as parse
use Rattle.lp_back_end_laws.proofs.Ascent.StartRow.{own_names}
use Rattle.lp_back_end_laws.proofs.Ascent.Settings.{its_module, located_there, on_items, setting, start_there}

-- parameters' names in `parse`, bound one by one
names_bound : (ps : List Parameter) (names : Names) → all_bound names ps ≡ bound_each names (names_of ps)
names_bound [] names = refl
names_bound (p ∷ ps) names = names_bound ps (bound p.name names)

-- the nonterminal of a start, by its number
start_numbered : (g : Grammar) (start number : ℕ) (name : NonterminalString) → IsValidGrammar g → start_number g start ≡ Some number → slice_get (values g.start_nonterminals) start ≡ Some name → slice_get (nonterminals_of g) number ≡ Some name
start_numbered g start number name valid begun at =
    let e = start_entry g valid start number begun in
    let same : e.0 ≡ name = same_Some e.0 name (sym e.1 ∙ at) in
    let key : slice_get (nonterminals_of g) number ≡ Some (e.3).0 = slice_get-map (λ (x : NonterminalString × NonterminalData). x.0) g.nonterminals.entries number ∙ ap (option_map (λ (x : NonterminalString × NonterminalData). x.0)) e.4 in
    key ∙ ap Some (sym (nonterminal_is e.0 (e.3).0 e.5) ∙ same)

module _ (g : Grammar) (states : List StartStates) (by : g.algorithm.codegen ≡ RecursiveAscent) (memory : IsInMemory g) (ordered : AreStatesInMemory states) (never : error_of g ≡ None) (clash : AreNamedApart g) where
  module _ (built : Program) (may : IsEmittable g states) (is_built : IsBuilt g states built) (fits : IsFitting built) (i : ℕ) (names : NonterminalString × NonterminalString) (list : StartStates) (at : slice_get g.start_nonterminals.entries i ≡ Some names) (has : slice_get states i ≡ Some list) where
    abbrev entered : Module
    entered = its_module g states built by memory may is_built fits i names list at has

    pub start_told : IsTold g built list (ascent_form g list.states (start_for g names.0 names.1)) (move_cost g + 5)
    start_told items params failing budget enough known finish run =
        let tables = run.0 in
        let p = on_items g states built by memory may is_built fits i names list at has items params failing enough tables run.1 run.2 in
        let h = start_there g states built by memory may is_built fits i names list at has items params failing enough tables run.1 run.2 in
        let plain = parameters_plain g states built by may is_built fits i names list at has in
        let bound = ascent_parameters_are g list.states (start_for g names.0 names.1) (prefix_wordy g states built may is_built fits) plain in
        let law_stands = setting g states built by memory may is_built fits i names list at has items params failing enough tables run.1 run.2 never known clash ordered in
        let own : own_names g list.states (start_for g names.0 names.1) g.prefix (program_items built) ≡ bound_each no_names (names_of g.parameters) = bound ∙ names_bound g.parameters no_names in
        let many : (parameters_of g.prefix (ascent_form g list.states (start_for g names.0 names.1))).next ≡ length g.parameters = ap (λ (n : Names). n.next) own ∙ held_next g in
        let numbered : slice_get (nonterminals_of g) law_stands.over.number ≡ Some (start_for g names.0 names.1).nonterminal = start_numbered g i law_stands.over.number _ may.valid law_stands.over.begun (start_begins g i names at) in
        let first =
        parse.start_told law_stands (located_there g states built by memory may is_built fits i names list at has items params failing enough tables run.1 run.2) h.maker (parameters_of g.prefix (ascent_form g list.states (start_for g names.0 names.1))) (start_for g names.0 names.1) h.number h.prefix h.first_named h.closure
        (h.tagged law_stands.over.number numbered) h.there many (subst (λ (n : Names). ShowAll n (parameters (length g.parameters)) (names_of g.parameters) (given_by g)) (sym own) (held_shown g)) (call_law law_stands) budget in
        let counted : Told g list.states Trial items params failing (move_cost g + 3) budget (by_call p h.number (parameters_of g.prefix (ascent_form g list.states (start_for g names.0 names.1))).next budget) = subst (λ (n : ℕ). Told g list.states Trial items params failing (move_cost g + 3) budget (by_call p h.number n budget)) (sym many) first in
        let told = told_more g list.states Trial items params failing (move_cost g + 3) (move_cost g + 5) budget _ (omega arith) counted in
        let ends : finish ≡ by_call p h.number (parameters_of g.prefix (ascent_form g list.states (start_for g names.0 names.1))).next budget = run.3 ∙ ap (λ (q : Parse). parsed q entered.params entered.closure p budget) h.parses ∙ ap (λ (n : ℕ). by_call p h.number n budget) h.params in
        subst (Told g list.states Trial items params failing (move_cost g + 5) budget) (sym ends) told

-- recursive ascent obeys the law of a back end
pub ascent_law : RunsByTables RecursiveAscent
ascent_law g states built by looked may is_built fits i names list at has =
    let s = looked.suits by in
    let st = start_for g names.0 names.1 in
    let plain = parameters_plain g states built by may is_built fits i names list at has in
    let two : 2 ≤ length list.states = two_states g may.valid i list.states (valid_at g states i list has (may.tabled i).1) (slice_get_within g.start_nonterminals.entries i names at) in
    let least = ascent_counts g states i names list at has built is_built by two in
    record {
      counts = ascent_parameters_counted g list.states st (prefix_wordy g states built may is_built fits) plain;
      told = λ heavy weighs. told_heavy g built list (ascent_form g list.states st) (move_cost g + 5) heavy (move_is_little g) (omega (arith, least, weighs)) (start_told g states by looked.memory looked.ordered (no_error g s.0) s.1 built may is_built fits i names list at has);
    }
