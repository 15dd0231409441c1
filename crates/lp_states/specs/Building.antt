-- What the builder holds.
use Rattle.std.specs.Prelude.{◌≡◌, ℕ, ◌<◌, ◌≤◌, List, [], ◌∷◌, ◌++◌, map, length, Option, Some, None, slice_get, slice_index_or, option_and_then, Contains}
use Rattle.std.specs.Ordering.{nat_cmp, ordering_then}
use Rattle.std.specs.Cmp.Lexicographic.{slice_cmp}
use Rattle.std.specs.declared.cmp.Ordering.{Ordering}
use Rattle.std.specs.BTreeMap as tree
use Rattle.std.specs.BTreeMap.{BTreeMap}
use Rattle.lp_repr.specs.declared.numbering.SymbolNumber.{SymbolNumber}
use Rattle.lp_repr.specs.declared.numbering.SymbolNumber.TheVariants as symbol
use Rattle.lp_repr.specs.declared.numbering.Rule.{Rule}
use Rattle.lp_repr.specs.declared.lr1.Lr1State.{Lr1State}
use Rattle.lp_repr.specs.declared.lr1.Token.{Token}
use Rattle.lp_sets.specs.declared.tokens.TokenSet.{TokenSet}
use Rattle.lp_sets.specs.contracts.tokens.TokenSetOrd.TheImpl as token_set_ord
use Rattle.lp_sets.specs.TokenSets.{IsBefore}
use Rattle.lp_states.specs.declared.builder.Builder.{Builder}
use Rattle.lp_states.specs.declared.builder.Edge.{Edge}
use Rattle.lp_states.specs.declared.builder.Origin.{Origin}
use Rattle.lp_states.specs.declared.builder.Origin.TheVariants.{Start, After}
use Rattle.lp_states.specs.declared.builder.Stop.{Stop}
use Rattle.lp_states.specs.declared.builder.Stop.TheVariants.{Conflict, TooMany, Memory}
use Rattle.lp_states.specs.ItemMaps.{ItemMap, item_cmp, IsKernelAfter, IsClosureOf}
use Rattle.lp_states.specs.Actions.{AreMoved, ActsTwice, ShowsItems}
use Rattle.lp_states.specs.Reductions.{reductions_of}
use Rattle.lp_states.specs.Walks.{IsWalk, IsNoted}
use Rattle.lp_states.specs.States.{ShowsItemsAfter, IsCalm, IsFirstConflict, AreTooMany, most_states}

-- the path of each origin, from those before it
abbrev pub path_after : List (List SymbolNumber) → Origin → List SymbolNumber
path_after before Start = []
path_after before (After i x) = x ∷ slice_index_or before i []

abbrev pub paths_from : List (List SymbolNumber) → List Origin → List (List SymbolNumber)
paths_from before [] = before
paths_from before (o ∷ os) = paths_from (before ++ path_after before o ∷ []) os

abbrev pub paths_of : List Origin → List (List SymbolNumber)
paths_of os = paths_from [] os

-- the path of the state before, if there is one
abbrev pub path_before : List (List SymbolNumber) → Option ℕ → List SymbolNumber
path_before paths None = []
path_before paths (Some i) = slice_index_or paths i []

-- where the symbols of states lead
abbrev pub target_at : Lr1State → SymbolNumber → Option ℕ
target_at s (symbol.Terminal n) = tree.get nat_cmp s.shifts n
target_at s (symbol.Nonterminal n) = tree.get nat_cmp s.gotos n

abbrev pub targets_of : List Lr1State → ℕ → SymbolNumber → Option ℕ
targets_of states i x = option_and_then (λ s. target_at s x) (slice_get states i)

abbrev pub edge_of : Edge → ℕ × SymbolNumber
edge_of e = (e.from, e.over)

abbrev pub edges_of : List Edge → List (ℕ × SymbolNumber)
edges_of es = map edge_of es

abbrev pub edge_from : ℕ → SymbolNumber × ItemMap → Edge
edge_from n f = record { from = n; over = f.0; kernel = f.1 }

-- the order of sets of tokens, and of kernels, by which these are found
abbrev pub token_set_cmp : TokenSet → TokenSet → Ordering
token_set_cmp = (token_set_ord.ghosts).cmp

abbrev pub kernel_cmp : ItemMap → ItemMap → Ordering
kernel_cmp k l = slice_cmp (λ p q. ordering_then (item_cmp p.0 q.0) (token_set_cmp p.1 q.1)) k.entries l.entries

-- a new state of a kernel, with its edges
pub record IsNewState (rules : List Rule) (kernel : ItemMap) (n : ℕ) (s : Lr1State) (edges : List Edge) : Type 0 where
  pub items : ItemMap
  pub closure : IsClosureOf rules kernel items
  pub calm : (t : Token) → ActsTwice rules items.entries t → ⊥
  pub shows : ShowsItems items.entries s.items
  pub reductions : s.reductions ≡ reductions_of rules s.items
  pub no_targets : (x : SymbolNumber) → target_at s x ≡ None
  pub moved : BTreeMap SymbolNumber ItemMap
  pub are_moved : AreMoved rules items moved
  pub edges_are : edges ≡ map (edge_from n) moved.entries

-- the first token on which a kernel's items have two actions
pub record IsKernelConflict (rules : List Rule) (kernel : ItemMap) (token : Token) : Type 0 where
  pub items : ItemMap
  pub closure : IsClosureOf rules kernel items
  pub twice : ActsTwice rules items.entries token
  pub least : (t : Token) → IsBefore t token → ActsTwice rules items.entries t → ⊥

-- what a call that numbers leaves
pub record NumbersNew (rules : List Rule) (old new : Builder) (kernel : ItemMap) (o : Origin) : Type 0 where
  pub room : length old.states.items < most_states
  pub state : Lr1State
  pub edges : List Edge
  pub is_new : IsNewState rules kernel (length old.states.items) state edges
  pub origins_are : new.origins.items ≡ old.origins.items ++ o ∷ []
  pub states_are : new.states.items ≡ old.states.items ++ state ∷ []
  pub edges_are : new.edges.items ≡ old.edges.items ++ edges
  pub numbers_same : new.numbers ≡ old.numbers

-- why it stops
abbrev pub StopsAt : List Rule → Builder → Builder → ItemMap → Origin → Stop → Type 0
StopsAt rules old new kernel o (Conflict t) =
    (new.origins.items ≡ old.origins.items ++ o ∷ []) × (length old.states.items < most_states) × IsKernelConflict rules kernel t
StopsAt rules old new kernel o TooMany =
    (new.origins.items ≡ old.origins.items ++ o ∷ []) × (most_states ≤ length old.states.items)
StopsAt rules old new kernel o Memory = Unit {0}

-- an edge noted at its state, of which the items stay
pub record IsNotedIn (old new : List Lr1State) (from : ℕ) (over : SymbolNumber) (target : ℕ) : Type 0 where
  pub count : length new ≡ length old
  pub noted : IsNoted (targets_of old) (targets_of new) from over target
  pub shown : (i : ℕ) (s : Lr1State) → slice_get new i ≡ Some s → (r : Lr1State) × (slice_get old i ≡ Some r) × (s.items ≡ r.items) × (s.reductions ≡ r.reductions)

-- the builder after a part of the walk, with edges that are to be followed before its own
pub record IsBuilt (rules : List Rule) (start : ℕ) (next : List (ℕ × SymbolNumber)) (b : Builder) : Type 0 where
  pub walk : IsWalk rules start (paths_of b.origins.items) (targets_of b.states.items) (next ++ edges_of b.edges.items)
  pub count : length b.states.items ≡ length b.origins.items
  pub few : length b.states.items ≤ most_states
  pub shown : (i : ℕ) (u : List SymbolNumber) (s : Lr1State) → slice_get (paths_of b.origins.items) i ≡ Some u → slice_get b.states.items i ≡ Some s → ShowsItemsAfter rules start u s
  pub calm : (u : List SymbolNumber) → Contains (paths_of b.origins.items) u → IsCalm rules start u
  pub kernels : (j : ℕ) (x : SymbolNumber) (u : List SymbolNumber) → slice_get (paths_of b.origins.items) j ≡ Some (x ∷ u) → (k : ItemMap) × IsKernelAfter rules start x u k × (tree.get kernel_cmp b.numbers k ≡ Some j)
  pub numbered : (k : ItemMap) (j : ℕ) → tree.get kernel_cmp b.numbers k ≡ Some j → (x : SymbolNumber) × (u : List SymbolNumber) × (slice_get (paths_of b.origins.items) j ≡ Some (x ∷ u)) × IsKernelAfter rules start x u k
  pub edge_kernels : (e : Edge) → Contains b.edges.items e → (u : List SymbolNumber) × (slice_get (paths_of b.origins.items) e.from ≡ Some u) × IsKernelAfter rules start e.over u e.kernel

-- why the walk stopped
abbrev pub IsStopped : List Rule → ℕ → Builder → Stop → Type 0
IsStopped rules start b (Conflict t) =
    (before : List (List SymbolNumber)) × (u : List SymbolNumber) × (paths_of b.origins.items ≡ before ++ u ∷ []) × IsFirstConflict rules start before u t
IsStopped rules start b TooMany =
    (before : List (List SymbolNumber)) × (u : List SymbolNumber) × (paths_of b.origins.items ≡ before ++ u ∷ []) × AreTooMany rules start before u
IsStopped rules start b Memory = Unit {0}
