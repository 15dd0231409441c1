use Rattle.std.proofs.Common.{◌≡◌, List, map, take}
use Rattle.std.specs.List.{flat_map}
use Rattle.lp_repr.specs.declared.repr.Symbol.{Symbol}
use Rattle.lp_lower.specs.Extents.{extent_of}
use Rattle.lp_lower.specs.RightSides.{right_sides}
use Rattle.lp_lower.proofs.extents.rule_extent.Given as goal

abbrev pub invariant-loop-alternative : goal.invariant-loop-alternative
invariant-loop-alternative l =
    (sides : List (List (List Symbol))) → l.inlines ≡ map extent_of sides → l.extent ≡ extent_of (flat_map (right_sides l.names.plain.now sides) (take l.alternative-index l.rule.alternatives))
