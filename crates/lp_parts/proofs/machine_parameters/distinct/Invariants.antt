-- Those of the parameters so far.
use Rattle.std.proofs.Common.{◌≡◌}
use Rattle.lp_parts.specs.MachineParameters.{distinct}
use Rattle.lp_parts.proofs.machine_parameters.distinct.Given as goal

abbrev pub invariant-loop-parameter : goal.invariant-loop-parameter
invariant-loop-parameter l = l.seen.items ≡ distinct l.yielded
