use Rattle.std.proofs.Common.{refl}
use Rattle.lp_types.specs.Bounds.{binder}
use Rattle.lp_types.proofs.Steps.{read_then, part_fails, answers_as}
use Rattle.lp_types.proofs.reader.Reader.binder.Goals as goal

pub returns-in_err-expect : goal.returns-in_err-expect
unfolding binder
returns-in_err-expect c = part_fails _ _ _ _ _ _ _ c.in_err-expect.ensures c.from_residual.ensures.1 refl

pub returns : goal.returns
unfolding binder
returns c = answers_as _ _ _ _ _ c.type_parameters.ensures (read_then _ _ _ _ _ c.in_ok-expect.ensures refl)
