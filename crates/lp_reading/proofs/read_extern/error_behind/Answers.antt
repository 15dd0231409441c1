use Rattle.std.proofs.Common.{refl}
use Rattle.lp_reading.specs.Externs.{error_behind}
use Rattle.lp_types.proofs.Steps.{part_fails, read_then}
use Rattle.lp_reading.proofs.read_extern.error_behind.Goals as goal

pub returns-in_err-expect_word : goal.returns-in_err-expect_word
unfolding error_behind
returns-in_err-expect_word c = part_fails _ _ _ _ _ _ _ c.in_err-expect_word.ensures c.from_residual.ensures.1 refl

pub returns-in_err-ty : goal.returns-in_err-ty
unfolding error_behind
returns-in_err-ty c = part_fails _ _ _ _ _ _ _ c.in_err-ty.ensures c.from_residual-in_err-ty.ensures.1 (read_then _ _ _ _ _ c.in_ok-expect_word.ensures refl)

pub returns : goal.returns
unfolding error_behind
returns c = read_then _ _ _ _ _ c.in_ok-expect_word.ensures (read_then _ _ _ _ _ c.in_ok-ty.ensures refl)
