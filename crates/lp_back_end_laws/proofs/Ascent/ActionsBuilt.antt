-- In a program that runs a module of a built program the actions of productions do what the tables' actions do.
use Rattle.std.proofs.Common.{◌≡◌, ℕ, List, length, Some, slice_get, refl}
use Rattle.lp_repr.specs.Numbering.{productions_of}
use Rattle.lp_repr.specs.declared.lr1.StartStates.{StartStates}
use Rattle.lp_repr.specs.declared.repr.Grammar.{Grammar}
use Rattle.lp_repr.specs.declared.repr.LrCodeGeneration.TheVariants.{RecursiveAscent}
use Rattle.lp_repr.specs.declared.repr.NonterminalString.{NonterminalString}
use Rattle.lp_repr.specs.declared.repr.Production.{Production}
use Rattle.lp_driver.specs.declared.answers.Expecting.TheVariants.{Trial}
use Rattle.lp_driver.specs.Values.{Text}
use Rattle.lp_core.specs.Store as core
use Rattle.lp_machine.specs.GrammarTables.{grammar_tables}
use Rattle.lp_maker.specs.Making.{Making}
use Rattle.lp_run.specs.Entered.{module_made}
use Rattle.lp_tree.specs.ProgramTree.{program_items}
use Rattle.lp_tree.specs.declared.tree.Program.{Program}
use Rattle.lp_view.specs.PartLists.{Form}
use Rattle.lp_assembly.specs.Built.{IsBuilt}
use Rattle.lp_fitting.specs.Fitting.{IsFitting}
use Rattle.lp_emitted.specs.Emittable.{IsEmittable}
use Rattle.lp_question_laws.proofs.Gotos.LinkModule.{complete}
use Rattle.lp_question_laws.specs.Reductions.Premises.{ActionRuns}
use Rattle.lp_question_laws.specs.Actions.Nesting.{action_cost}
use Rattle.lp_question_laws.proofs.Actions.BuiltProgram.{built_forms}
use Rattle.lp_back_end_laws.specs.Filled.InMemory.{IsInMemory}
use Rattle.lp_back_end_laws.proofs.Ascent.ActionRuns.{acts, given_by}
use Rattle.lp_back_end_laws.proofs.Ascent.ReadParameters.{is_plain}

module _ (g : Grammar) (states : List StartStates) (built : Program) (by : g.algorithm.codegen ≡ RecursiveAscent) (memory : IsInMemory g) (may : IsEmittable g states) (is_built : IsBuilt g states built) (fits : IsFitting built)
    (i : ℕ) (names : NonterminalString × NonterminalString) (list : StartStates) (at : slice_get g.start_nonterminals.entries i ≡ Some names) (has : slice_get states i ≡ Some list)
    (p : core.Program) (items : Form) (functions : p.functions ≡ (module_made g.prefix (program_items built) items).functions) (texts : p.texts ≡ (module_made g.prefix (program_items built) items).texts)
    (params : List Text) (given : p.params ≡ params) (many : length params ≡ length g.parameters) (failing : List ℕ) (fails : p.failing ≡ failing) where
  -- for whatever is made with the names of all that is made
  pub built_acts : (maker : Making) → maker.names ≡ (complete g.prefix (program_items built) items).names → (k : ℕ) (production : Production) → slice_get (productions_of g) k ≡ Some production
      → ActionRuns p maker g (grammar_tables g list.states Trial params failing) (given_by g) (action_cost g) production
  built_acts =
      acts p g.prefix (program_items built) items g functions texts (built_forms g states built is_built) refl memory.count may.valid (is_plain g states built by may is_built fits i names list at has memory) list.states Trial params given many failing fails
