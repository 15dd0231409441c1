-- Items in range, as a test.
use Rattle.std.specs.Prelude.{ℕ, Bool, false, List, length, Option, Some, None, nat_le, slice_get}
use Rattle.lp_repr.specs.declared.repr.Production.{Production}
use Rattle.lp_repr.specs.declared.lr1.Item.{Item}

-- a dot stands within a production
abbrev pub is_within : ℕ → Option Production → Bool
is_within dot None = false
is_within dot (Some p) = nat_le dot (length p.symbols)

-- the item names a production, and its dot stands within it
abbrev pub is_in_range : List Production → Item → Bool
is_in_range productions item = is_within item.index (slice_get productions item.production)
