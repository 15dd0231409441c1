use Rattle.std.proofs.Common.{◌≡◌, map, take}
use Rattle.std.specs.Map.Iter.{deref}
use Rattle.lp_lower.specs.Places.{least_of}
use Rattle.lp_lower.specs.Refusals.{unknown_among}
use Rattle.lp_lower.proofs.refusals.unknown_name.Given as goal

abbrev pub invariant-loop-symbol : goal.invariant-loop-symbol
invariant-loop-symbol l =
    l.found ≡ least_of (unknown_among l.names.plain.now (take l.symbol-index (map deref l.symbols)))
