use Rattle.std.proofs.Common.{◌≡◌, List, drop}
use Rattle.lp_repr.specs.declared.repr.Symbol.{Symbol}
use Rattle.lp_lower.specs.Extents.{extent_of}
use Rattle.lp_lower.specs.RightSides.{too_many_after, too_many}
use Rattle.lp_lower.proofs.extents.too_many.Given as goal

-- the extent of some right sides, those of the rules so far
abbrev pub invariant-loop-rule : goal.invariant-loop-rule
invariant-loop-rule l =
    (before : List (List Symbol)) × (l.extent ≡ extent_of before) × (too_many_after l.names.plain.now before (drop l.rule-index l.names.plain.now.rules) ≡ too_many l.names.plain.now)
