-- Sets of items, as pairs of a production and a dot.
use Rattle.std.specs.Prelude.{◌↔◌, ℕ, Bool, List, IsTrue}
use Rattle.std.specs.BTreeSet.{BTreeSet, contains}
use Rattle.std.specs.Ordering.{nat_cmp, ordering_then}
use Rattle.std.specs.declared.cmp.Ordering.{Ordering}
use Rattle.lp_repr.specs.Closure.{HasItem}
use Rattle.lp_repr.specs.declared.lr1.Item.{Item}

-- by production, then by dot
abbrev pub item_cmp : ℕ × ℕ → ℕ × ℕ → Ordering
item_cmp x y = ordering_then (nat_cmp x.0 y.0) (nat_cmp x.1 y.1)

-- the set has the production with this dot
abbrev pub has : BTreeSet (ℕ × ℕ) → ℕ → ℕ → Bool
has s p d = contains item_cmp s (p, d)

-- the set has exactly these items
abbrev pub IsSetOf : List Item → BTreeSet (ℕ × ℕ) → Type 0
IsSetOf items s = (p d : ℕ) → IsTrue (has s p d) ↔ HasItem items p d
