use Rattle.std.proofs.Common.{refl}
use Rattle.lp_reading.specs.Tops.{top_by}
use Rattle.lp_types.proofs.Steps.{part_fails, read_then}
use Rattle.lp_reading.proofs.top.read_pattern.Goals as goal

pub returns-in_err-found : goal.returns-in_err-found
unfolding top_by
returns-in_err-found c = part_fails _ _ _ _ _ _ _ c.in_err-found.ensures c.from_residual.ensures.1 refl

pub returns-in_err-expect_end : goal.returns-in_err-expect_end
unfolding top_by
returns-in_err-expect_end c = part_fails _ _ _ _ _ _ _ c.in_err-expect_end.ensures c.from_residual-in_err-expect_end.ensures.1 (read_then _ _ _ _ _ c.in_ok-found.ensures refl)

pub returns : goal.returns
unfolding top_by
returns c = read_then _ _ _ _ _ c.in_ok-found.ensures (read_then _ _ _ _ _ c.in_ok-expect_end.ensures refl)
