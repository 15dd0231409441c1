-- The items of a state that its parts are taken from, by their dots.
use Rattle.std.specs.Prelude.{ℕ, List, [], ◌∷◌, Option, Some, None, nat_lt, ◌==◌, ◌&&◌, ◌||◌, if◌then◌else◌}
use Rattle.lp_repr.specs.declared.lr1.Item.{Item}

-- the item, or another with a greater dot
abbrev pub longer_item : Item → Option Item → Item
longer_item x None = x
longer_item x (Some y) = if nat_lt x.index y.index then y else x

-- the first item with the greatest dot
abbrev pub longest_item : List Item → Option Item
longest_item [] = None
longest_item (x ∷ xs) = Some (longer_item x (longest_item xs))

-- the item, or another with a lesser dot, where a dot at 0 counts for nothing
abbrev pub shorter_item : Item → Option Item → Item
shorter_item x None = x
shorter_item x (Some y) = if nat_lt 0 y.index && ((x.index == 0) || nat_lt y.index x.index) then y else x

-- the first item with the least dot above 0, else the first item
abbrev pub popped_item : List Item → Option Item
popped_item [] = None
popped_item (x ∷ xs) = Some (shorter_item x (popped_item xs))
