-- Sets of items as maps from a production and a dot to the lookaheads.
use Rattle.std.specs.Prelude.{◌≡◌, ◌↔◌, ℕ, zero, suc, List, Option, Some, None, IsSome, if◌then◌else◌, option_and_then}
use Rattle.std.specs.Ordering.{nat_cmp, ordering_then, eq_by_cmp}
use Rattle.std.specs.declared.cmp.Ordering.{Ordering}
use Rattle.std.specs.BTreeMap as tree
use Rattle.std.specs.BTreeMap.{BTreeMap}
use Rattle.lp_repr.specs.Closure.{InClosure}
use Rattle.lp_repr.specs.declared.numbering.Rule.{Rule}
use Rattle.lp_repr.specs.declared.numbering.SymbolNumber.{SymbolNumber}
use Rattle.lp_repr.specs.declared.lr1.Token.{Token}
use Rattle.lp_repr.specs.declared.lr1.Token.TheVariants.{Eof}
use Rattle.lp_sets.specs.declared.tokens.TokenSet.{TokenSet}
use Rattle.lp_sets.specs.TokenSets.{HasToken, union_of}
use Rattle.lp_states.specs.Ranges.{left_of}
use Rattle.lp_states.specs.ItemSets.{InLookaheads, IsBegun, Moved, MovedOn, IsCore, IsLookahead}

-- a value is put at a key, and all others stay
abbrev pub IsPut : {K X : Type 0} → (K → K → Ordering) → BTreeMap K X → BTreeMap K X → K → X → Type 0
IsPut {K} {X} cmp old new k v = (q : K) → tree.get cmp new q ≡ (if eq_by_cmp cmp k q then Some v else tree.get cmp old q)

-- more lookaheads with those that are there
abbrev pub added_to : Option TokenSet → TokenSet → TokenSet
added_to None s = s
added_to (Some old) s = union_of old s

-- a set of items
abbrev pub ItemMap : Type 0
ItemMap = BTreeMap (ℕ × ℕ) TokenSet

-- by production, then by dot
abbrev pub item_cmp : ℕ × ℕ → ℕ × ℕ → Ordering
item_cmp x y = ordering_then (nat_cmp x.0 y.0) (nat_cmp x.1 y.1)

-- the lookaheads of an item of the set
abbrev pub lookaheads_at : ItemMap → ℕ → ℕ → Option TokenSet
lookaheads_at items p d = tree.get item_cmp items (p, d)

-- the item stands in the set, and has the lookahead
abbrev pub Stands : ItemMap → ℕ → ℕ → Type 0
Stands items p d = IsSome (lookaheads_at items p d)

abbrev pub StandsOn : ItemMap → ℕ → ℕ → Token → Type 0
StandsOn items p d t = (s : TokenSet) × (lookaheads_at items p d ≡ Some s) × HasToken s t

-- what was asked for at a production with the dot first
abbrev pub asked_at : List Rule → BTreeMap ℕ TokenSet → ℕ → ℕ → Option TokenSet
asked_at rules sets p zero = option_and_then (λ n. tree.get nat_cmp sets n) (left_of rules p)
asked_at rules sets p (suc d) = None

-- that and what a kernel has
abbrev pub joined : Option TokenSet → Option TokenSet → Option TokenSet
joined o None = o
joined o (Some s) = Some (added_to o s)

abbrev pub closed_at : List Rule → ItemMap → BTreeMap ℕ TokenSet → ℕ → ℕ → Option TokenSet
closed_at rules kernel sets p d = joined (lookaheads_at kernel p d) (asked_at rules sets p d)

-- the closure of a set of items
pub record IsClosureOf (rules : List Rule) (kernel items : ItemMap) : Type 0 where
  pub ordered : tree.IsOrdered item_cmp items
  pub cores : (p d : ℕ) → Stands items p d ↔ InClosure rules (Stands kernel) p d
  pub lookaheads : (p d : ℕ) (t : Token) → StandsOn items p d t ↔ InLookaheads rules (Stands kernel) (StandsOn kernel) p d t

-- the items after a path
pub record AreItemsAfter (rules : List Rule) (start : ℕ) (path : List SymbolNumber) (items : ItemMap) : Type 0 where
  pub cores : (p d : ℕ) → Stands items p d ↔ IsCore rules start path p d
  pub lookaheads : (p d : ℕ) (t : Token) → StandsOn items p d t ↔ IsLookahead rules start path p d t

-- those of them that were moved over the last symbol
pub record IsKernelAfter (rules : List Rule) (start : ℕ) (x : SymbolNumber) (path : List SymbolNumber) (kernel : ItemMap) : Type 0 where
  pub ordered : tree.IsOrdered item_cmp kernel
  pub cores : (p d : ℕ) → Stands kernel p d ↔ Moved rules x (IsCore rules start path) p d
  pub lookaheads : (p d : ℕ) (t : Token) → StandsOn kernel p d t ↔ MovedOn rules x (IsLookahead rules start path) p d t

-- the beginning
pub record IsStartKernel (rules : List Rule) (start : ℕ) (kernel : ItemMap) : Type 0 where
  pub cores : (p d : ℕ) → Stands kernel p d ↔ IsBegun rules start p d
  pub lookaheads : (p d : ℕ) (t : Token) → StandsOn kernel p d t ↔ (IsBegun rules start p d × (t ≡ Eof))
