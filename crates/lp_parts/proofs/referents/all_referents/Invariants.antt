-- Those of the parameters so far.
use Rattle.std.proofs.Common.{◌≡◌, map, take}
use Rattle.std.specs.Map.Iter.{deref}
use Rattle.lp_parts.specs.MachineParameters.{all_referents}
use Rattle.lp_parts.proofs.referents.all_referents.Given as goal

abbrev pub invariant-loop-parameter : goal.invariant-loop-parameter
invariant-loop-parameter l = map deref l.all.items ≡ all_referents (take l.parameter-index l.parameters)
