-- The uses so far.
use Rattle.std.proofs.Common.{◌≡◌, map, take}
use Rattle.lp_parts.specs.Phantom.{used_in_type}
use Rattle.lp_parts.proofs.phantom.phantom_type.Given as goal

abbrev pub invariant-loop-parameter : goal.invariant-loop-parameter
invariant-loop-parameter l = l.uses.items ≡ map used_in_type (take l.parameter-index l.parameters)
