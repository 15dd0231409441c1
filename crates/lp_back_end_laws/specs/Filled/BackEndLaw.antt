-- The law of a back end: all runs of the modules that it makes are those of the stack machine over the tables.
use Rattle.std.specs.Prelude.{◌≡◌, ℕ, ◌*◌, ◌≤◌, false, List, length, Some, slice_get}
use Rattle.lp_repr.specs.Numbering.{nonterminals_of}
use Rattle.lp_repr.specs.declared.lr1.Lr1State.{Lr1State}
use Rattle.lp_repr.specs.declared.lr1.StartStates.{StartStates}
use Rattle.lp_repr.specs.declared.repr.Grammar.{Grammar}
use Rattle.lp_repr.specs.declared.repr.LrCodeGeneration.{LrCodeGeneration}
use Rattle.lp_repr.specs.declared.repr.LrCodeGeneration.TheVariants.{RecursiveAscent}
use Rattle.lp_repr.specs.declared.repr.NonterminalString.{NonterminalString}
use Rattle.lp_write.specs.declared.rust.Options.{Options}
use Rattle.lp_tree.specs.ProgramTree.{Item, program_items}
use Rattle.lp_tree.specs.declared.tree.Program.{Program}
use Rattle.lp_run.specs.ParseMethod.{parameters_of}
use Rattle.lp_assembly.specs.Built.{IsBuilt, IsModuleBy}
use Rattle.lp_fitting.specs.Fitting.{IsFitting}
use Rattle.lp_emitted.specs.Emittable.{IsEmittable}
use Rattle.lp_agrees.specs.Emission.{EmissionAgrees}
use Rattle.lp_ascent.specs.AnswerLines.{answer_name}
use Rattle.lp_table.specs.Starts.{start_for}
use Rattle.lp_view.specs.PartLists.{Form}
use Rattle.lp_agreement.proofs.Composed.Agreement.{IsTold}
use Rattle.lp_agreement.proofs.Composed.Counting.{counted}
use Rattle.lp_agreement.proofs.Composed.Modules.{items_by}
use Rattle.lp_back_end_laws.specs.Filled.InMemory.{AreStatesInMemory, IsInMemory}

-- nonterminals have escaped names of their own
abbrev pub AreNamedApart : Grammar → Type 0
AreNamedApart g = (i j : ℕ) (a b : NonterminalString) → slice_get (nonterminals_of g) i ≡ Some a → slice_get (nonterminals_of g) j ≡ Some b → answer_name a ≡ answer_name b → i ≡ j

-- where recursive ascent is asked for no errors are mended, and nonterminals have names of their own
abbrev pub SuitsCode : Grammar → Type 0
SuitsCode g = g.algorithm.codegen ≡ RecursiveAscent → (g.uses_error_recovery ≡ false) × AreNamedApart g

-- what an emission has looked at
pub record Looked (g : Grammar) (states : List StartStates) : Type 0 where
  pub memory : IsInMemory g
  pub ordered : AreStatesInMemory states
  pub suits : SuitsCode g

-- the items of a start's module, by this code
abbrev pub items_of : LrCodeGeneration → Grammar → StartStates → NonterminalString × NonterminalString → Form
items_of c g list names = items_by c g list.states (start_for g names.0 names.1)

-- the module of a start takes the grammar's parameters, and its runs are told by the machine over the tables, a move costing at most the square of what the program weighs, or of more
pub record StartTold (c : LrCodeGeneration) (g : Grammar) (built : Program) (list : StartStates) (names : NonterminalString × NonterminalString) : Type 0 where
  pub counts : (parameters_of g.prefix (items_of c g list names)).next ≡ length g.parameters
  pub told : (heavy : ℕ) → counted (program_items built) ≤ heavy → IsTold g built list (items_of c g list names) (heavy * heavy)

-- those of all starts are, in each program that is built with this code
abbrev pub RunsByTables : LrCodeGeneration → Type 0
RunsByTables c =
    (g : Grammar) (states : List StartStates) (built : Program) → g.algorithm.codegen ≡ c → Looked g states → IsEmittable g states → IsBuilt g states built → IsFitting built
    → (i : ℕ) (names : NonterminalString × NonterminalString) (list : StartStates) → slice_get g.start_nonterminals.entries i ≡ Some names → slice_get states i ≡ Some list → StartTold c g built list names

-- what a back end makes is of this code, and obeys the law
pub record IsLawful (IsMade : Grammar → List Lr1State → ℕ → List Item → Type 0) (c : LrCodeGeneration) : Type 0 where
  pub makes : (g : Grammar) (states : List Lr1State) (start : ℕ) (lines : List Item) → IsMade g states start lines → IsModuleBy c g start states lines
  pub runs : RunsByTables c

-- whatever is emitted with this code agrees with the tables
abbrev pub EmissionsAgree : LrCodeGeneration → Type 0
EmissionsAgree c = (g : Grammar) (states : List StartStates) (options : Options) → g.algorithm.codegen ≡ c → Looked g states → EmissionAgrees g states options
