use Rattle.std.proofs.Common.{refl}
use Rattle.lp_reading.specs.Externs.{error_alone}
use Rattle.lp_types.proofs.Steps.{part_fails, read_then}
use Rattle.lp_reading.proofs.read_extern.error_alone.Goals as goal

pub returns-in_err-ty : goal.returns-in_err-ty
unfolding error_alone
returns-in_err-ty c = part_fails _ _ _ _ _ _ _ c.in_err-ty.ensures c.from_residual.ensures.1 refl

pub returns : goal.returns
unfolding error_alone
returns c = read_then _ _ _ _ _ c.in_ok-ty.ensures refl
