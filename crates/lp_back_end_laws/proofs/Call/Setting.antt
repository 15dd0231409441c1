-- What the law of a call stands on: valid tables without an error terminal, a program with the functions of their states, and a grammar whose patterns are read as they are meant.
use Rattle.std.specs.Prelude.{◌≡◌, ℕ, ◌+◌, ◌<◌, ◌≤◌, ◌^◌, List, All, length, None, Some, slice_get}
use Rattle.std.specs.BTreeMap.{IsOrdered}
use Rattle.std.specs.Ordering.{nat_cmp}
use Rattle.lp_repr.specs.Numbering.{productions_of, terminals_of}
use Rattle.lp_repr.specs.declared.lr1.Lr1State.{Lr1State}
use Rattle.lp_repr.specs.declared.repr.Grammar.{Grammar}
use Rattle.lp_repr.specs.declared.repr.Production.{Production}
use Rattle.lp_repr.specs.declared.values.RunItem.{RunItem}
use Rattle.lp_driver.specs.declared.answers.Expecting.TheVariants.{Trial}
use Rattle.lp_driver.specs.Values.{Text}
use Rattle.lp_core.specs.declared.value.StateType.{StateType}
use Rattle.lp_core.specs.Store.{Program}
use Rattle.lp_core.specs.Val.{Val}
use Rattle.lp_machine.specs.GrammarTables.{grammar_tables, known_among}
use Rattle.lp_agrees.specs.Machine.{MatchesOne}
use Rattle.lp_question_laws.specs.Actions.Params.{AreSet}
use Rattle.lp_question_laws.proofs.Tokens.FormOf.{AllWord}
use Rattle.lp_turn_laws.specs.Paths.Over.{IsOver}
use Rattle.lp_question_laws.specs.Reductions.Premises.{ActionRuns}
use Rattle.lp_question_laws.proofs.Reductions.Texts.{AllKeys, names_of}
use Rattle.lp_back_end_laws.specs.Call.Shifted.{AreShiftsRead, AreShiftsTold}
use Rattle.lp_back_end_laws.proofs.Call.Expected.{HasTrials}
use Rattle.lp_back_end_laws.proofs.Call.Linked.{HasStates}
use Rattle.lp_back_end_laws.proofs.Call.SoughtTokens.{AreReadAs}

-- a grammar's texts, as the code has them read
pub record IsRead (g : Grammar) (states : List Lr1State) (keys : List (List ℕ)) (given : List Val) : Type 0 where
  pub prefix : AllWord g.prefix
  pub some_prefix : 0 < length g.prefix
  -- the patterns of shifts are told, and read as the terminals' texts
  pub told : AreShiftsTold g states
  pub shifts : AreShiftsRead g states
  -- each terminal's pattern is read as the machine's terminal
  pub terminals : AreReadAs g (known_among g (terminals_of g)) 0 (terminals_of g)
  pub terminals_many : length (known_among g (terminals_of g)) ≡ length (terminals_of g)
  -- the parameters' names, and the values that they hold
  pub keys_are : keys ≡ names_of g.parameters
  pub keys_plain : AllKeys g.prefix keys
  pub given_many : length given ≡ length keys
  pub given_set : AreSet given
  pub given_same : (i j : ℕ) (key : List ℕ) → slice_get keys i ≡ Some key → slice_get keys j ≡ Some key → slice_get given i ≡ slice_get given j

pub record Setting (g : Grammar) (start : ℕ) (states : List Lr1State) (params : List Text) (failing : List ℕ) (items : List RunItem) (p : Program) (keys : List (List ℕ)) (given : List Val) (function action variant : ℕ → ℕ) (kind : StateType) (expected most cost : ℕ) : Type 0 where
  pub over : IsOver g start states (grammar_tables g states Trial params failing)
  pub never : (grammar_tables g states Trial params failing).error ≡ None
  pub items_are : p.items ≡ items
  pub located_is : p.located ≡ (grammar_tables g states Trial params failing).is_located
  pub known : All (MatchesOne g) items
  pub code : HasStates g states p function action variant kind expected
  pub trials : HasTrials p kind states (grammar_tables g states Trial params failing) expected
  pub read : IsRead g states keys given
  -- the gotos of a state stand in order
  pub gotos_ordered : (q : ℕ) (s : Lr1State) → slice_get states q ≡ Some s → IsOrdered nat_cmp s.gotos
  -- actions do what the tables' actions do
  pub acts : (q i : ℕ) (production : Production) → q < length states → slice_get (productions_of g) i ≡ Some production → ActionRuns p (code.maker q) g (grammar_tables g states Trial params failing) given cost production
  -- counts are those of lists in memory
  pub states_few : length states ≤ 2147483647
  pub productions_few : length (productions_of g) ≤ 2147483647
  pub symbols_few : (i : ℕ) (production : Production) → slice_get (productions_of g) i ≡ Some production → length production.symbols < 2 ^ 64
  -- what a move may cost
  pub some : 5 ≤ most
  pub more : cost + 4 ≤ most
