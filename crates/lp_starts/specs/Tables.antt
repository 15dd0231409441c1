-- The tables of a grammar, and why it has none.
use Rattle.std.specs.Prelude.{◌≡◌, ℕ, ◌<◌, List, [], length, Some, MatchOption, slice_get}
use Rattle.std.specs.BTreeMap.{keys, IsOrdered}
use Rattle.std.specs.List.{All}
use Rattle.std.specs.Ordering.{nat_cmp}
use Rattle.lp_repr.specs.Numbering.{rules_of}
use Rattle.lp_repr.specs.ValidTables.{start_number, IsValidTables}
use Rattle.lp_repr.specs.declared.lr1.Lr1State.{Lr1State}
use Rattle.lp_repr.specs.declared.lr1.StartStates.{StartStates}
use Rattle.lp_repr.specs.declared.numbering.SymbolNumber.{SymbolNumber}
use Rattle.lp_repr.specs.declared.repr.Grammar.{Grammar}
use Rattle.lp_repr.specs.declared.repr.NonterminalString.{NonterminalString}
use Rattle.lp_states.specs.Causes.{IsCause}
use Rattle.lp_states.specs.States.{AreStates}
use Rattle.lp_states.specs.declared.builder.BuildFault.{BuildFault}
use Rattle.lp_states.specs.declared.builder.BuildFault.TheVariants as build
use Rattle.lp_valid.specs.Refusals.{RefusesGrammar}
use Rattle.lp_valid.specs.ValidGrammar.{IsValidGrammar}
use Rattle.lp_valid.specs.declared.grammars.GrammarFault.TheVariants.{Rule}
use Rattle.lp_starts.specs.declared.tables.TablesFault.{TablesFault}
use Rattle.lp_starts.specs.declared.tables.TablesFault.TheVariants.{BadGrammar, Conflict, TooManyStates, Memory}

-- the states are the canonical ones of the start of this number; a number of no start has none
abbrev pub AreStatesOf : Grammar → ℕ → List Lr1State → Type 0
AreStatesOf g start states = MatchOption (start_number g start) (states ≡ []) (λ n. (paths : List (List SymbolNumber)) × AreStates (rules_of g) n paths states)

-- a start's public name with its states
abbrev pub IsTableOf : Grammar → ℕ → StartStates → Type 0
IsTableOf g start table = (slice_get (keys g.start_nonterminals) start ≡ Some table.start) × AreStatesOf g start table.states

-- the tables are those of the first starts, so many
abbrev pub AreFirst : Grammar → ℕ → List StartStates → Type 0
AreFirst g count tables = (length tables ≡ count) × ((start : ℕ) (table : StartStates) → slice_get tables start ≡ Some table → IsTableOf g start table)

-- the tables are those of all starts, in key order, and the grammar is valid
pub record AreTablesOf (g : Grammar) (tables : List StartStates) : Type 0 where
  pub valid : IsValidGrammar g
  pub all : AreFirst g (length (keys g.start_nonterminals)) tables

-- the terminals of each state's shifts ascend
abbrev pub ShiftsAscend : List Lr1State → Type 0
ShiftsAscend states = All (λ (s : Lr1State). IsOrdered nat_cmp s.shifts) states

-- where the grammar is valid and the start is one of its, the states are valid tables
abbrev pub AreTheirTables : Grammar → ℕ → List Lr1State → Type 0
AreTheirTables g start states = IsValidGrammar g → (name : NonterminalString) → slice_get (keys g.start_nonterminals) start ≡ Some name → IsValidTables g start states

-- the states of each start are valid tables
abbrev pub AreValid : Grammar → List StartStates → Type 0
AreValid g tables = (start : ℕ) (table : StartStates) → slice_get tables start ≡ Some table → IsValidTables g start table.states

-- each start before this one has states, so that neither cause holds of it
abbrev pub HaveNoFault : Grammar → ℕ → Type 0
HaveNoFault g start = (earlier : ℕ) → earlier < start → (states : List Lr1State) × AreStatesOf g earlier states

-- a fault of one start
abbrev pub StopsAt : ℕ → BuildFault → TablesFault → Type 0
StopsAt start (build.Conflict path token) fault = fault ≡ Conflict start path token
StopsAt start (build.TooManyStates paths) fault = fault ≡ TooManyStates start paths
StopsAt start build.Memory fault = fault ≡ Memory

-- and its cause
abbrev pub IsFaultAt : Grammar → ℕ → TablesFault → Type 0
IsFaultAt g start (BadGrammar rule place) = ⊥
IsFaultAt g start (Conflict named path token) = (named ≡ start) × IsCause g start (build.Conflict path token)
IsFaultAt g start (TooManyStates named paths) = (named ≡ start) × IsCause g start (build.TooManyStates paths)
IsFaultAt g start Memory = Unit {0}

-- why a grammar has no tables: a rule of valid grammars fails, or it is valid and this start is the least one without states
abbrev pub HasNoTables : Grammar → TablesFault → Type 0
HasNoTables g (BadGrammar rule place) = RefusesGrammar g (Rule rule place)
HasNoTables g (Conflict start path token) = IsValidGrammar g × HaveNoFault g start × IsCause g start (build.Conflict path token)
HasNoTables g (TooManyStates start paths) = IsValidGrammar g × HaveNoFault g start × IsCause g start (build.TooManyStates paths)
HasNoTables g Memory = Unit {0}
