use Rattle.std.proofs.Common.{refl}
use Rattle.lp_reading.specs.Externs.{associated_type}
use Rattle.lp_types.proofs.Steps.{part_fails, read_then}
use Rattle.lp_reading.proofs.read_extern.associated_type.Goals as goal

pub returns-in_err-expect : goal.returns-in_err-expect
unfolding associated_type
returns-in_err-expect c = part_fails _ _ _ _ _ _ _ c.in_err-expect.ensures c.from_residual.ensures.1 refl

pub returns-in_err-ty : goal.returns-in_err-ty
unfolding associated_type
returns-in_err-ty c = part_fails _ _ _ _ _ _ _ c.in_err-ty.ensures c.from_residual-in_err-ty.ensures.1 (read_then _ _ _ _ _ c.in_ok-expect.ensures refl)

pub returns-in_err-expect-2 : goal.returns-in_err-expect-2
unfolding associated_type
returns-in_err-expect-2 c = part_fails _ _ _ _ _ _ _ c.in_err-expect-2.ensures c.from_residual-in_err-expect-2.ensures.1 (read_then _ _ _ _ _ c.in_ok-expect.ensures (read_then _ _ _ _ _ c.in_ok-ty.ensures refl))

pub returns : goal.returns
unfolding associated_type
returns c = read_then _ _ _ _ _ c.in_ok-expect.ensures (read_then _ _ _ _ _ c.in_ok-ty.ensures (read_then _ _ _ _ _ c.in_ok-expect-2.ensures refl))
