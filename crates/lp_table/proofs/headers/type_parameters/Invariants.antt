-- The texts so far.
use Rattle.std.proofs.Common.{◌≡◌, map, take}
use Rattle.lp_repr.specs.Shown.{parameter_text}
use Rattle.lp_table.proofs.headers.type_parameters.Given as goal

abbrev pub invariant-loop-parameter : goal.invariant-loop-parameter
invariant-loop-parameter l = l.pieces.items ≡ map parameter_text (take l.parameter-index l.parameters)
