-- Valid tables of one start (canonical LR(1): Knuth 1965). Lookaheads of items are free.
use Rattle.std.specs.Prelude.{◌≡◌, ◌↔◌, ℕ, ◌<◌, ◌≤◌, List, ◌++◌, map, length, Option, Some, slice_get, IfSome, IsSome, option_and_then}
use Rattle.std.specs.List.{flat_map, AllByRecursion}
use Rattle.std.specs.BTreeMap.{get, keys, values}
use Rattle.std.specs.Ordering.{nat_cmp}
use Rattle.lp_repr.specs.Numbering.{rules_of, nonterminal_number, nonterminals_of, terminals_of}
use Rattle.lp_repr.specs.Closure.{next_symbol, HasLeft, InClosure, HasItem, Advanced}
use Rattle.lp_repr.specs.declared.repr.Grammar.{Grammar}
use Rattle.lp_repr.specs.declared.numbering.SymbolNumber.{SymbolNumber}
use Rattle.lp_repr.specs.declared.numbering.SymbolNumber.TheVariants as symbol
use Rattle.lp_repr.specs.declared.numbering.Rule.{Rule}
use Rattle.lp_repr.specs.declared.lr1.Token.{Token}
use Rattle.lp_repr.specs.declared.lr1.Token.TheVariants.{Terminal, Eof}
use Rattle.lp_repr.specs.declared.lr1.Item.{Item}
use Rattle.lp_repr.specs.declared.lr1.Lr1State.{Lr1State}

-- the state holds exactly the closure of the given items
abbrev pub IsClosureOf : List Rule → (ℕ → ℕ → Type 0) → Lr1State → Type 0
IsClosureOf rules Given s = (p d : ℕ) → HasItem s.items p d ↔ InClosure rules Given p d

-- the state is the closure of the start's productions with the dot first
abbrev pub Begins : List Rule → Option ℕ → Lr1State → Type 0
Begins rules start s = IsClosureOf rules (λ p d. (d ≡ 0) × IfSome start (HasLeft rules p)) s

-- the symbol follows a dot of the state
abbrev pub Follows : List Rule → Lr1State → SymbolNumber → Type 0
Follows rules s x = (p : ℕ) × (d : ℕ) × HasItem s.items p d × (next_symbol rules p d ≡ Some x)

-- the number of an item's production and its dot are in range
abbrev pub IsItemInRange : List Rule → Item → Type 0
IsItemInRange rules item = (r : Rule) × (slice_get rules item.production ≡ Some r) × (item.index ≤ length r.right)

-- a token is a terminal of the grammar, or the end of input
abbrev pub IsTokenInRange : ℕ → Token → Type 0
IsTokenInRange terminals (Terminal n) = n < terminals
IsTokenInRange terminals Eof = Unit {0}

-- the target of an edge is exactly the closure of the state's items advanced over the edge's symbol
abbrev pub IsTarget : List Rule → List Lr1State → Lr1State → SymbolNumber → ℕ → Type 0
IsTarget rules states s x target = (t : Lr1State) × (slice_get states target ≡ Some t) × IsClosureOf rules (Advanced rules s.items x) t

-- the tokens on which a state acts, each as often as it does
abbrev pub acting_tokens : Lr1State → List Token
acting_tokens s = map Terminal (keys s.shifts) ++ flat_map (λ r. r.0) s.reductions

-- a state of valid tables
pub record IsValidState (g : Grammar) (states : List Lr1State) (s : Lr1State) : Type 0 where
  -- productions, dots, terminals, nonterminals and targets are in range
  pub items_in_range : AllByRecursion (IsItemInRange (rules_of g)) s.items
  pub shifts_in_range : (n target : ℕ) → get nat_cmp s.shifts n ≡ Some target → (n < length (terminals_of g)) × (target < length states)
  pub gotos_in_range : (n target : ℕ) → get nat_cmp s.gotos n ≡ Some target → (n < length (nonterminals_of g)) × (target < length states)
  pub reductions_in_range : AllByRecursion (λ r. (r.1 < length (rules_of g)) × AllByRecursion (IsTokenInRange (length (terminals_of g))) r.0) s.reductions
  -- the targets of edges
  pub shift_targets : (n target : ℕ) → get nat_cmp s.shifts n ≡ Some target → IsTarget (rules_of g) states s (symbol.Terminal n) target
  pub goto_targets : (n target : ℕ) → get nat_cmp s.gotos n ≡ Some target → IsTarget (rules_of g) states s (symbol.Nonterminal n) target
  -- shifts stand exactly on the terminals that follow a dot, gotos on the nonterminals
  pub shifts_stand : (n : ℕ) → IsSome (get nat_cmp s.shifts n) ↔ Follows (rules_of g) s (symbol.Terminal n)
  pub gotos_stand : (n : ℕ) → IsSome (get nat_cmp s.gotos n) ↔ Follows (rules_of g) s (symbol.Nonterminal n)
  -- only complete items are reduced
  pub reduces_complete : AllByRecursion (λ r. IfSome (slice_get (rules_of g) r.1) (λ rule. HasItem s.items r.1 (length rule.right))) s.reductions
  -- a token has at most one action
  pub acts_once : (i j : ℕ) (t : Token) → slice_get (acting_tokens s) i ≡ Some t → slice_get (acting_tokens s) j ≡ Some t → i ≡ j

-- the number of the nonterminal of a start, whose own number is that of its public name in key order
abbrev pub start_number : Grammar → ℕ → Option ℕ
start_number g start = option_and_then (nonterminal_number g) (slice_get (values g.start_nonterminals) start)

-- valid tables of a start: there is a state, the first one begins, and each is valid
pub record IsValidTables (g : Grammar) (start : ℕ) (states : List Lr1State) : Type 0 where
  pub some_state : 0 < length states
  pub begins : IfSome (slice_get states 0) (Begins (rules_of g) (start_number g start))
  pub each : (i : ℕ) (s : Lr1State) → slice_get states i ≡ Some s → IsValidState g states s
