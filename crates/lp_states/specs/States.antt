-- The states of a start (canonical LR(1): Knuth 1965).
use Rattle.std.specs.Prelude.{◌≡◌, ◌↔◌, ◌⊎◌, ℕ, ◌<◌, ◌≤◌, List, [], ◌∷◌, ◌++◌, map, length, reverse, Some, slice_get, AllPairs, Contains}
use Rattle.std.specs.Ordering.{nat_cmp}
use Rattle.std.specs.BTreeMap.{get}
use Rattle.lp_repr.specs.Closure.{HasItem}
use Rattle.lp_repr.specs.Numbering.{number_or_count}
use Rattle.lp_repr.specs.declared.repr.Grammar.{Grammar}
use Rattle.lp_repr.specs.declared.repr.Symbol.{Symbol}
use Rattle.lp_repr.specs.declared.numbering.SymbolNumber.{SymbolNumber}
use Rattle.lp_repr.specs.declared.numbering.SymbolNumber.TheVariants as symbol
use Rattle.lp_repr.specs.declared.numbering.Rule.{Rule}
use Rattle.lp_repr.specs.declared.lr1.Item.{Item}
use Rattle.lp_repr.specs.declared.lr1.Lr1State.{Lr1State}
use Rattle.lp_repr.specs.declared.lr1.Token.{Token}
use Rattle.lp_sets.specs.TokenSets.{IsBefore}
use Rattle.lp_states.specs.ItemSets.{IsCore, IsLookahead, HasConflict}
use Rattle.lp_states.specs.Paths.{IsViable, AreFirstPaths}
use Rattle.lp_states.specs.Walks.{IsNumbered}
use Rattle.lp_states.specs.Reductions.{reductions_of}

-- the most states of a start
abbrev pub most_states : ℕ
most_states = 4096

-- the order of items: by production, then by dot
abbrev pub IsItemBefore : Item → Item → Type 0
IsItemBefore a b = (a.production < b.production) ⊎ ((a.production ≡ b.production) × (a.index < b.index))

-- the state has the items after the path, each with its lookaheads, both in order, and the reductions that they give
pub record ShowsItemsAfter (rules : List Rule) (start : ℕ) (path : List SymbolNumber) (s : Lr1State) : Type 0 where
  pub ordered : AllPairs IsItemBefore s.items
  pub cores : (p d : ℕ) → HasItem s.items p d ↔ IsCore rules start path p d
  pub tokens_ordered : (i : Item) → Contains s.items i → AllPairs IsBefore i.lookahead
  pub lookaheads : (i : Item) (t : Token) → Contains s.items i → Contains i.lookahead t ↔ IsLookahead rules start path i.production i.index t
  pub reductions : s.reductions ≡ reductions_of rules s.items

-- the path leads to the state of this number
abbrev pub LeadsTo : List Rule → ℕ → List (List SymbolNumber) → List SymbolNumber → ℕ → Type 0
LeadsTo rules start paths v j = IsViable rules start v × IsNumbered rules start paths v j

-- a state: its symbols lead to the states of what follows the path
pub record IsStateAfter (rules : List Rule) (start : ℕ) (paths : List (List SymbolNumber)) (path : List SymbolNumber) (s : Lr1State) : Type 0 where
  pub shows : ShowsItemsAfter rules start path s
  pub shifts : (n j : ℕ) → (get nat_cmp s.shifts n ≡ Some j) ↔ LeadsTo rules start paths (symbol.Terminal n ∷ path) j
  pub gotos : (n j : ℕ) → (get nat_cmp s.gotos n ≡ Some j) ↔ LeadsTo rules start paths (symbol.Nonterminal n ∷ path) j

-- no token has two actions after the path
abbrev pub IsCalm : List Rule → ℕ → List SymbolNumber → Type 0
IsCalm rules start path = (t : Token) → HasConflict rules start path t → ⊥

-- the states are those of all first paths in their order, and none has two actions on a token
pub record AreStates (rules : List Rule) (start : ℕ) (paths : List (List SymbolNumber)) (states : List Lr1State) : Type 0 where
  pub first : AreFirstPaths rules start paths
  pub all : (v : List SymbolNumber) → IsViable rules start v → (j : ℕ) × IsNumbered rules start paths v j
  pub calm : (u : List SymbolNumber) → Contains paths u → IsCalm rules start u
  pub few : length paths ≤ most_states
  pub same_count : length states ≡ length paths
  pub each : (i : ℕ) (u : List SymbolNumber) (s : Lr1State) → slice_get paths i ≡ Some u → slice_get states i ≡ Some s → IsStateAfter rules start paths u s

-- the path is the first one, of the first paths that may be, after which a token has two actions, and this is the first such token
pub record IsFirstConflict (rules : List Rule) (start : ℕ) (before : List (List SymbolNumber)) (path : List SymbolNumber) (token : Token) : Type 0 where
  pub first : AreFirstPaths rules start (before ++ path ∷ [])
  pub few : length before < most_states
  pub calm : (u : List SymbolNumber) → Contains before u → IsCalm rules start u
  pub conflict : HasConflict rules start path token
  pub least : (t : Token) → IsBefore t token → HasConflict rules start path t → ⊥

-- there is one first path more than there may be, and after those before the last no token has two actions
pub record AreTooMany (rules : List Rule) (start : ℕ) (before : List (List SymbolNumber)) (path : List SymbolNumber) : Type 0 where
  pub first : AreFirstPaths rules start (before ++ path ∷ [])
  pub many : length before ≡ most_states
  pub calm : (u : List SymbolNumber) → Contains before u → IsCalm rules start u

-- the symbols of a path by name, in their order
abbrev pub Spells : Grammar → List Symbol → List SymbolNumber → Type 0
Spells g names path = map (number_or_count g) names ≡ reverse path
