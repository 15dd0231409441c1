-- The eight rules of tables, each said of a state.
use Rattle.std.specs.Prelude.{◌≡◌, ◌↔◌, ℕ, ◌<◌, List, length, Option, None, Some, IfSome, IsSome, slice_get}
use Rattle.std.specs.BTreeMap.{get}
use Rattle.std.specs.List.{AllByRecursion}
use Rattle.std.specs.Ordering.{nat_cmp}
use Rattle.lp_repr.specs.Numbering.{rules_of, nonterminals_of, terminals_of}
use Rattle.lp_repr.specs.ValidTables.{Begins, Follows, IsItemInRange, IsTokenInRange, IsTarget, acting_tokens, start_number}
use Rattle.lp_repr.specs.declared.lr1.Lr1State.{Lr1State}
use Rattle.lp_repr.specs.declared.numbering.Rule.{Rule}
use Rattle.lp_repr.specs.declared.numbering.SymbolNumber.TheVariants as symbol
use Rattle.lp_repr.specs.declared.repr.Grammar.{Grammar}
use Rattle.lp_tables.specs.Reductions.{IsComplete, StandOnce}
use Rattle.lp_tables.specs.declared.check.TableRule.{TableRule}
use Rattle.lp_tables.specs.declared.check.TableRule.TheVariants.{States, Start, Ranges, Targets, Shifts, Reductions, Actions, Gotos}

-- what the rules know of a grammar and a start: the productions by numbers, how many symbols there are, and the number of the start's nonterminal
pub record Known : Type 0 where
  pub rules : List Rule
  pub terminals : ℕ
  pub nonterminals : ℕ
  pub start : Option ℕ

abbrev pub known_of : Grammar → ℕ → Known
known_of g start = record { rules = rules_of g; terminals = length (terminals_of g); nonterminals = length (nonterminals_of g); start = start_number g start }

-- the productions, dots and tokens of its items and reductions are in range
pub record HoldsKnown (g : Known) (s : Lr1State) : Type 0 where
  pub items : AllByRecursion (IsItemInRange g.rules) s.items
  pub reductions : AllByRecursion (λ r. (r.1 < length g.rules) × AllByRecursion (IsTokenInRange g.terminals) r.0) s.reductions

-- the symbols and targets of its edges are in range
pub record LeadsWithin (g : Known) (states : ℕ) (s : Lr1State) : Type 0 where
  pub shifts : (n target : ℕ) → get nat_cmp s.shifts n ≡ Some target → (n < g.terminals) × (target < states)
  pub gotos : (n target : ℕ) → get nat_cmp s.gotos n ≡ Some target → (n < g.nonterminals) × (target < states)

-- productions, dots, terminals, nonterminals and targets are in range
pub record IsInRange (g : Known) (states : ℕ) (s : Lr1State) : Type 0 where
  pub parts : HoldsKnown g s
  pub edges : LeadsWithin g states s

-- the target of each edge is the closure of the state's items advanced over the edge's symbol
pub record HasTargets (g : Known) (states : List Lr1State) (s : Lr1State) : Type 0 where
  pub shifts : (n target : ℕ) → get nat_cmp s.shifts n ≡ Some target → IsTarget g.rules states s (symbol.Terminal n) target
  pub gotos : (n target : ℕ) → get nat_cmp s.gotos n ≡ Some target → IsTarget g.rules states s (symbol.Nonterminal n) target

-- what a rule says of the state of a number
abbrev pub Says : Known → List Lr1State → TableRule → ℕ → Type 0
Says g states States i = 0 < length states
Says g states Start i = i ≡ 0 → IfSome (slice_get states i) (Begins g.rules g.start)
Says g states Ranges i = IfSome (slice_get states i) (IsInRange g (length states))
Says g states Targets i = IfSome (slice_get states i) (HasTargets g states)
Says g states Shifts i = IfSome (slice_get states i) (λ s. (n : ℕ) → IsSome (get nat_cmp s.shifts n) ↔ Follows g.rules s (symbol.Terminal n))
Says g states Reductions i = IfSome (slice_get states i) (λ s. AllByRecursion (λ r. IsComplete g.rules s.items r.1) s.reductions)
Says g states Actions i = IfSome (slice_get states i) (λ s. StandOnce (acting_tokens s))
Says g states Gotos i = IfSome (slice_get states i) (λ s. (n : ℕ) → IsSome (get nat_cmp s.gotos n) ↔ Follows g.rules s (symbol.Nonterminal n))

-- the number of a rule
abbrev pub number : TableRule → ℕ
number States = 1
number Start = 2
number Ranges = 3
number Targets = 4
number Shifts = 5
number Reductions = 6
number Actions = 7
number Gotos = 8

-- the number of the least rule that fails at a state, or none where all hold there
abbrev pub IsFirstFailingRule : Known → List Lr1State → ℕ → Option ℕ → Type 0
IsFirstFailingRule g states i None = (rule : TableRule) → Says g states rule i
IsFirstFailingRule g states i (Some k) = (rule : TableRule) × (number rule ≡ k) × (¬ Says g states rule i) × ((lesser : TableRule) → number lesser < k → Says g states lesser i)

-- all rules hold at all lesser states, and at this one those of lesser numbers do and this one fails
abbrev pub IsLeastFailure : Known → List Lr1State → ℕ → ℕ → Type 0
IsLeastFailure g states k i = ((lesser : ℕ) → lesser < i → (rule : TableRule) → Says g states rule lesser) × IsFirstFailingRule g states i (Some k)
