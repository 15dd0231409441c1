-- The parameters so far.
use Rattle.std.proofs.Common.{◌≡◌, take}
use Rattle.lp_parts.proofs.machine_parameters.declared_copies.Given as goal

abbrev pub invariant-loop-parameter : goal.invariant-loop-parameter
invariant-loop-parameter l = l.copies.items ≡ take l.parameter-index l.parameters
