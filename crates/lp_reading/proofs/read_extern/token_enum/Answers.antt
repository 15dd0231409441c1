use Rattle.std.proofs.Common.{refl}
use Rattle.lp_reading.specs.Externs.{token_enum}
use Rattle.lp_types.proofs.Steps.{part_fails, read_then}
use Rattle.lp_reading.proofs.read_extern.token_enum.Goals as goal

pub returns-in_err-expect : goal.returns-in_err-expect
unfolding token_enum
returns-in_err-expect c = part_fails _ _ _ _ _ _ _ c.in_err-expect.ensures c.from_residual.ensures.1 refl

pub returns-in_err-token : goal.returns-in_err-token
unfolding token_enum
returns-in_err-token c = part_fails _ _ _ _ _ _ _ c.in_err-token.ensures c.from_residual-in_err-token.ensures.1 (read_then _ _ _ _ _ c.in_ok-expect.ensures refl)

pub returns-in_err-expect-2 : goal.returns-in_err-expect-2
unfolding token_enum
returns-in_err-expect-2 c = part_fails _ _ _ _ _ _ _ c.in_err-expect-2.ensures c.from_residual-in_err-expect-2.ensures.1 (read_then _ _ _ _ _ c.in_ok-expect.ensures (read_then _ _ _ _ _ c.in_ok-token.ensures refl))

pub returns-in_err-conversions : goal.returns-in_err-conversions
unfolding token_enum
returns-in_err-conversions c = part_fails _ _ _ _ _ _ _ c.in_err-conversions.ensures c.from_residual-in_err-conversions.ensures.1 (read_then _ _ _ _ _ c.in_ok-expect.ensures (read_then _ _ _ _ _ c.in_ok-token.ensures (read_then _ _ _ _ _ c.in_ok-expect-2.ensures refl)))

pub returns : goal.returns
unfolding token_enum
returns c = read_then _ _ _ _ _ c.in_ok-expect.ensures (read_then _ _ _ _ _ c.in_ok-token.ensures (read_then _ _ _ _ _ c.in_ok-expect-2.ensures (read_then _ _ _ _ _ c.in_ok-conversions.ensures refl)))
