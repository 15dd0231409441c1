use Rattle.std.proofs.Common.{refl}
use Rattle.lp_reading.specs.Patterns.{closed}
use Rattle.lp_types.proofs.Steps.{part_fails, read_then}
use Rattle.lp_reading.proofs.read_pattern.closed.Goals as goal

pub returns-in_err-expect : goal.returns-in_err-expect
unfolding closed
returns-in_err-expect c = part_fails _ _ _ _ _ _ _ c.in_err-expect.ensures c.from_residual.ensures.1 refl

pub returns : goal.returns
unfolding closed
returns c = read_then _ _ _ _ _ c.in_ok-expect.ensures refl
