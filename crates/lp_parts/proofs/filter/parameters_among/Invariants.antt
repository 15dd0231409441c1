-- Those of the parameters so far.
use Rattle.std.proofs.Common.{◌≡◌, filter, map, take}
use Rattle.std.specs.Map.Iter.{deref}
use Rattle.lp_parts.specs.Filter.{has_parameter}
use Rattle.lp_parts.proofs.filter.parameters_among.Given as goal

abbrev pub invariant-loop-parameter : goal.invariant-loop-parameter
invariant-loop-parameter l =
    map deref l.kept.items ≡ filter (has_parameter l.free) (take l.parameter-index l.declared)
