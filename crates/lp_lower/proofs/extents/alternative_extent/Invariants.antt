use Rattle.std.proofs.Common.{◌≡◌, ◌≤◌, List, length, map, drop}
use Rattle.lp_repr.specs.declared.repr.Symbol.{Symbol}
use Rattle.lp_lower.specs.Extents.{extent_of}
use Rattle.lp_lower.specs.RightSides.{sides_from}
use Rattle.lp_lower.proofs.extents.alternative_extent.Given as goal

-- the symbols from this place on
abbrev pub invariant-loop-place : goal.invariant-loop-place
invariant-loop-place l =
    (l.place ≤ length l.alternative.symbols) × ((sides : List (List (List Symbol))) → l.inlines ≡ map extent_of sides → l.extent ≡ extent_of (sides_from l.names.plain.now sides (drop l.place l.alternative.symbols)))

abbrev pub decreases-loop-place : goal.decreases-loop-place
decreases-loop-place l = l.place
