-- Where the edges of a state lead.
use Rattle.std.specs.Prelude.{◌≡◌, ℕ, ◌+◌, ◌-◌, ◌<◌, List, Some, IsTrue, slice_get}
use Rattle.std.specs.BTreeMap.{BTreeMap, get}
use Rattle.std.specs.BTreeSet.{BTreeSet}
use Rattle.std.specs.List.{AllByRecursion}
use Rattle.std.specs.Ordering.{nat_cmp}
use Rattle.lp_repr.specs.Closure.{HasItem}
use Rattle.lp_repr.specs.declared.lr1.Item.{Item}
use Rattle.lp_repr.specs.declared.lr1.Lr1State.{Lr1State}
use Rattle.lp_repr.specs.declared.numbering.Rule.{Rule}
use Rattle.lp_tables.specs.ItemSets.{has}
use Rattle.lp_tables.specs.Numbers.{number_after}
use Rattle.lp_tables.specs.Opening.{IsClosed}
use Rattle.lp_tables.specs.declared.rules.Kind.{Kind}

-- the state of this number has the item
abbrev pub HoldsItem : List Lr1State → ℕ → ℕ → ℕ → Type 0
HoldsItem states number p d = (s : Lr1State) × (slice_get states number ≡ Some s) × HasItem s.items p d

-- the set has the item, with its dot before the symbol
abbrev pub CameOver : List Rule → BTreeSet (ℕ × ℕ) → Kind → ℕ → ℕ → ℕ → Type 0
CameOver rules set kind n p d = (number_after rules kind p d ≡ Some n) × IsTrue (has set p d)

-- the target is closed, and its items with a symbol before the dot come from the set over the symbol
abbrev pub ComesFrom : List Rule → List Lr1State → BTreeSet (ℕ × ℕ) → Kind → ℕ → ℕ → Type 0
ComesFrom rules states set kind n target = (t : Lr1State) × (slice_get states target ≡ Some t) × IsClosed rules t × AllByRecursion (λ item. 0 < item.index → CameOver rules set kind n item.production (item.index - 1)) t.items

-- the item, advanced over a symbol that has an edge, is in the edge's target
abbrev pub GoesOn : List Rule → List Lr1State → Kind → BTreeMap ℕ ℕ → ℕ → ℕ → Type 0
GoesOn rules states kind edges p d = (n target : ℕ) → number_after rules kind p d ≡ Some n → get nat_cmp edges n ≡ Some target → HoldsItem states target p (d + 1)

-- the symbol of this number follows a dot
abbrev pub FollowsIn : List Rule → Kind → List Item → ℕ → Type 0
FollowsIn rules kind items n = (p : ℕ) × (d : ℕ) × HasItem items p d × (number_after rules kind p d ≡ Some n)
