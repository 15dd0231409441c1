-- A program that runs a built module of recursive ascent has all that the law of a call stands on.
use Rattle.std.proofs.Common.{◌≡◌, ℕ, ◌<◌, ◌^◌, List, length, map, All, None, Some, refl, ◌∙◌, subst, arith}
use Rattle.std.specs.Prelude.{is_some, slice_get}
use Rattle.std.specs.BTreeMap.{values}
use Rattle.std.proofs.lemmas.Option.{get_or_from_slice_get, slice_get_within}
use Rattle.lp_repr.specs.Numbering.{terminals_of}
use Rattle.lp_repr.specs.ValidTables.{IsValidTables}
use Rattle.lp_repr.specs.declared.lr1.Lr1State.{Lr1State}
use Rattle.lp_repr.specs.declared.lr1.StartStates.{StartStates}
use Rattle.lp_repr.specs.declared.repr.Grammar.{Grammar}
use Rattle.lp_repr.specs.declared.repr.LrCodeGeneration.TheVariants.{RecursiveAscent}
use Rattle.lp_repr.specs.declared.repr.NonterminalString.{NonterminalString}
use Rattle.lp_repr.specs.declared.values.RunItem.{RunItem}
use Rattle.lp_driver.specs.Values.{Text}
use Rattle.lp_core.specs.declared.expr.Table.{Table}
use Rattle.lp_core.specs.Store as core
use Rattle.lp_machine.specs.GrammarTables.{error_of}
use Rattle.lp_maker.specs.Making.{entries_of}
use Rattle.lp_parts.specs.Entries.{action_entries}
use Rattle.lp_table.specs.Starts.{Start, start_for}
use Rattle.lp_tree.specs.ProgramTree.{program_items}
use Rattle.lp_tree.specs.declared.tree.Program.{Program}
use Rattle.lp_view.specs.PartLists.{Form}
use Rattle.lp_run.specs.Entered.{module_made}
use Rattle.lp_run.specs.Module.{Module, program_on}
use Rattle.lp_run.specs.RunTold.{IsCounted}
use Rattle.lp_assembly.specs.Built.{IsBuilt}
use Rattle.lp_fitting.specs.Fitting.{IsFitting}
use Rattle.lp_emitted.specs.Emittable.{IsEmittable}
use Rattle.lp_agrees.specs.Machine.{MatchesOne}
use Rattle.lp_question_laws.proofs.Gotos.Goto.{Counts}
use Rattle.lp_question_laws.proofs.Gotos.Simulate.{AllSmall, reductions}
use Rattle.lp_question_laws.proofs.Reductions.Texts.{names_of}
use Rattle.lp_question_laws.specs.Actions.Nesting.{action_cost}
use Rattle.lp_question_laws.specs.Actions.Stands.{HasActions}
use Rattle.lp_question_laws.proofs.Actions.BuiltProgram.{built_forms}
use Rattle.lp_question_laws.proofs.Actions.LinkedModule.{module_actions}
use Rattle.lp_question_laws.proofs.Expected.Counted.{reductions_small, start_begins}
use Rattle.lp_agreement.proofs.Composed.Agreement.{valid_at}
use Rattle.lp_agreement.proofs.Composed.AscentModules.{ascent_form}
use Rattle.lp_agreement.proofs.Composed.Promises.{built_located}
use Rattle.lp_agreement.proofs.Composed.Counts.{productions_fit, states_fit}
use Rattle.lp_agreement.proofs.Composed.TwoStates.{two_states}
use Rattle.lp_back_end_laws.specs.Filled.InMemory.{AreStatesInMemory, HasOrderedGotos, IsInMemory}
use Rattle.lp_back_end_laws.proofs.Filled.InMemory.{counted}
use Rattle.lp_back_end_laws.proofs.Call.Setting.{Setting}
use Rattle.lp_back_end_laws.specs.Filled.BackEndLaw.{AreNamedApart}
use Rattle.lp_back_end_laws.proofs.Ascent.Runs.{RunsAscent, ascent_module}
use Rattle.lp_back_end_laws.proofs.Ascent.ActionRuns.{given_by}
use Rattle.lp_back_end_laws.proofs.Ascent.ActionsBuilt.{built_acts}
use Rattle.lp_back_end_laws.proofs.Ascent.Costs.{move_cost}
use Rattle.lp_back_end_laws.proofs.Ascent.ReadTexts.{is_read}
use Rattle.lp_back_end_laws.proofs.Ascent.StartRow.{own_names}
use Rattle.lp_back_end_laws.proofs.Ascent.Having.{variant}
use Rattle.lp_back_end_laws.proofs.Ascent.HavingStart.{HasStart, has_start}
use Rattle.lp_back_end_laws.proofs.Ascent.HavingStates.{action, expected, function, has_states, kind, makers_know, names as names_made}
use Rattle.lp_back_end_laws.proofs.Ascent.HavingTrials.{has_trials}
use Rattle.lp_back_end_laws.proofs.Ascent.LookUps.{entries_counted, over}

-- the gotos of a state are in order
gotos_at : (states : List StartStates) (i : ℕ) (list : StartStates) → AreStatesInMemory states → slice_get states i ≡ Some list → (q : ℕ) (s : Lr1State) → slice_get list.states q ≡ Some s → HasOrderedGotos s
gotos_at states i list ordered at q s here =
    let all : All HasOrderedGotos list.states = subst (λ (l : StartStates). All HasOrderedGotos l.states) (get_or_from_slice_get states i list list at) (ordered i list (slice_get_within states i list at)) in
    subst HasOrderedGotos (get_or_from_slice_get list.states q s s here) (all q s (slice_get_within list.states q s here))

module _ (g : Grammar) (states : List StartStates) (built : Program) (by : g.algorithm.codegen ≡ RecursiveAscent) (memory : IsInMemory g) (may : IsEmittable g states) (is_built : IsBuilt g states built) (fits : IsFitting built)
    (i : ℕ) (names : NonterminalString × NonterminalString) (list : StartStates) (at : slice_get g.start_nonterminals.entries i ≡ Some names) (has : slice_get states i ≡ Some list) where
  abbrev pub st : Start
  st = start_for g names.0 names.1

  abbrev pub ss : List Lr1State
  ss = list.states

  abbrev program : Form
  program = program_items built

  abbrev pub its_module : Module
  its_module = ascent_module g.prefix program g ss st

  valid : IsValidTables g i ss
  valid = valid_at g states i list has (may.tabled i).1

  begins : i < length g.start_nonterminals.entries
  begins = slice_get_within g.start_nonterminals.entries i names at

  pub counts : Counts g ss
  counts = record { states_fit = states_fit g states may i list has; productions_fit = productions_fit g states may; nonterminals_fit = (let n = memory.nonterminals in omega (arith, n)) }

  some : 0 < length ss
  some = (let two = two_states g may.valid i ss valid begins in omega (arith, two))

  small : AllSmall (reductions g ss st)
  small = reductions_small g ss st (let n = memory.nonterminals in omega (arith, n)) (counted g memory).symbols

  module _ (items : List RunItem) (params : List Text) (failing : List ℕ) (enough : length params ≡ length g.parameters) (tables : List Table) (same : map entries_of tables ≡ its_module.tables) (all : All IsCounted tables) where
    -- the module on items
    abbrev pub on_items : core.Program
    on_items = program_on its_module tables items params failing

    pub runs : RunsAscent g.prefix program g ss st on_items
    runs = record { functions = refl; tables = same; texts = refl; located = refl }

    actions : HasActions on_items g (names_made runs refl counts)
    actions = module_actions on_items g.prefix program (ascent_form g ss st) g refl refl (built_forms g states built is_built) refl memory.count

    -- the function that `parse` calls
    pub start_there : HasStart g ss st on_items its_module (own_names g ss st g.prefix program) (function runs refl counts) (variant runs)
    start_there = has_start runs refl counts some

    -- items keep their locations where the grammar has a type of them
    pub located_there : on_items.located ≡ is_some g.types.loc
    unfolding module_made
    located_there = runs.located ∙ built_located g states built is_built g.prefix

    module _ (never : error_of g ≡ None) (known : All (MatchesOne g) items) (clash : AreNamedApart g) (ordered : AreStatesInMemory states) where
      terminals_few : length (terminals_of g) < 2 ^ 64
      terminals_few = (let n = memory.terminals in omega (arith, n))

      entries_few : length (action_entries (length (terminals_of g)) ss) < 2 ^ 64
      entries_few = entries_counted runs counts all

      starts : slice_get (values g.start_nonterminals) i ≡ Some st.nonterminal
      starts = start_begins g i names at

      -- what the law of a call stands on
      pub setting : Setting g i ss params failing items on_items (names_of g.parameters) (given_by g) (function runs refl counts) (action runs refl counts) (variant runs) (kind runs refl counts) (expected runs refl counts) (move_cost g) (action_cost g)
      setting = record {
        over = over runs counts may.valid valid begins starts params failing small terminals_few entries_few;
        never = never;
        items_are = refl;
        located_is = located_there;
        known = known;
        code = has_states runs refl counts clash actions;
        trials = has_trials runs refl counts may.valid valid begins starts params failing small terminals_few entries_few;
        read = is_read g states built by memory may is_built fits i names list at has never on_items params refl enough;
        gotos_ordered = gotos_at states i list ordered has;
        acts = λ q k production lt here.
            built_acts g states built by memory may is_built fits i names list at has on_items (ascent_form g ss st) refl refl params refl enough failing refl
            ((has_states runs refl counts clash actions).maker q) (makers_know runs refl counts clash actions q lt) k production here;
        states_few = counts.states_fit;
        productions_few = counts.productions_fit;
        symbols_few = (counted g memory).symbols;
        some = omega arith;
        more = omega arith;
      }
