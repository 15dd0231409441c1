use Rattle.std.proofs.Common.{◌≡◌, List, map, drop}
use Rattle.lp_repr.specs.declared.repr.Symbol.{Symbol}
use Rattle.lp_lower.specs.Extents.{extent_of}
use Rattle.lp_lower.specs.RightSides.{sides_after, inline_sides}
use Rattle.lp_lower.proofs.extents.inline_extents.Given as goal

-- the extents of some right sides, those of the rules so far
abbrev pub invariant-loop-rule : goal.invariant-loop-rule
invariant-loop-rule l =
    (above : List (List (List Symbol))) × (l.extents.items ≡ map extent_of above) × (sides_after l.names.plain.now above (drop l.rule-index l.names.plain.now.rules) ≡ inline_sides l.names.plain.now)
