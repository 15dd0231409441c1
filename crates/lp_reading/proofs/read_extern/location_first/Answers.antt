use Rattle.std.proofs.Common.{refl}
use Rattle.lp_reading.specs.Externs.{location_first}
use Rattle.lp_types.proofs.Steps.{answers_as, part_fails, read_then}
use Rattle.lp_reading.proofs.read_extern.location_first.Goals as goal

pub returns-in_err-expect_word : goal.returns-in_err-expect_word
unfolding location_first
returns-in_err-expect_word c = part_fails _ _ _ _ _ _ _ c.in_err-expect_word.ensures c.from_residual.ensures.1 refl

pub returns-in_err-ty : goal.returns-in_err-ty
unfolding location_first
returns-in_err-ty c = part_fails _ _ _ _ _ _ _ c.in_err-ty.ensures c.from_residual-in_err-ty.ensures.1 (read_then _ _ _ _ _ c.in_ok-expect_word.ensures refl)

pub returns : goal.returns
unfolding location_first
returns c = answers_as _ _ _ _ _ c.maybe_error.ensures (read_then _ _ _ _ _ c.in_ok-expect_word.ensures (read_then _ _ _ _ _ c.in_ok-ty.ensures refl))
