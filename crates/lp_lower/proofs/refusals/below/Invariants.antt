use Rattle.std.proofs.Common.{◌≡◌, map, take}
use Rattle.std.specs.Map.Iter.{deref}
use Rattle.lp_lower.specs.Places.{least_of}
use Rattle.lp_lower.specs.Refusals.{below_among}
use Rattle.lp_lower.proofs.refusals.below.Given as goal

abbrev pub invariant-loop-symbol : goal.invariant-loop-symbol
invariant-loop-symbol l =
    l.found ≡ least_of (below_among l.names.plain.now l.number (take l.symbol-index (map deref l.symbols)))
