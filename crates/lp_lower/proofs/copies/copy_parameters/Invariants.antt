use Rattle.std.proofs.Common.{◌≡◌, map, take}
use Rattle.lp_lower.specs.Lowering.{parameter_tree}
use Rattle.lp_lower.proofs.copies.copy_parameters.Given as goal

abbrev pub invariant-loop-parameter : goal.invariant-loop-parameter
invariant-loop-parameter l = map parameter_tree l.copies ≡ map parameter_tree (take l.parameter-index l.parameters)
