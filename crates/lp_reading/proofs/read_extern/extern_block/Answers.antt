use Rattle.std.proofs.Common.{refl}
use Rattle.lp_reading.specs.Externs.{extern_block}
use Rattle.lp_types.proofs.Steps.{part_fails, read_then}
use Rattle.lp_reading.proofs.read_extern.extern_block.Goals as goal

pub returns-in_err-expect : goal.returns-in_err-expect
unfolding extern_block
returns-in_err-expect c = part_fails _ _ _ _ _ _ _ c.in_err-expect.ensures c.from_residual.ensures.1 refl

pub returns-in_err-expect-2 : goal.returns-in_err-expect-2
unfolding extern_block
returns-in_err-expect-2 c = part_fails _ _ _ _ _ _ _ c.in_err-expect-2.ensures c.from_residual-in_err-expect-2.ensures.1 (read_then _ _ _ _ _ c.in_ok-expect.ensures refl)

pub returns-in_err-types : goal.returns-in_err-types
unfolding extern_block
returns-in_err-types c = part_fails _ _ _ _ _ _ _ c.in_err-types.ensures c.from_residual-in_err-types.ensures.1 (read_then _ _ _ _ _ c.in_ok-expect.ensures (read_then _ _ _ _ _ c.in_ok-expect-2.ensures refl))

pub returns-in_err-tokens : goal.returns-in_err-tokens
unfolding extern_block
returns-in_err-tokens c = part_fails _ _ _ _ _ _ _ c.in_err-tokens.ensures c.from_residual-in_err-tokens.ensures.1 (read_then _ _ _ _ _ c.in_ok-expect.ensures (read_then _ _ _ _ _ c.in_ok-expect-2.ensures (read_then _ _ _ _ _ c.in_ok-types.ensures refl)))

pub returns-in_err-expect-3 : goal.returns-in_err-expect-3
unfolding extern_block
returns-in_err-expect-3 c = part_fails _ _ _ _ _ _ _ c.in_err-expect-3.ensures c.from_residual-in_err-expect-3.ensures.1 (read_then _ _ _ _ _ c.in_ok-expect.ensures (read_then _ _ _ _ _ c.in_ok-expect-2.ensures (read_then _ _ _ _ _ c.in_ok-types.ensures (read_then _ _ _ _ _ c.in_ok-tokens.ensures refl))))

pub returns : goal.returns
unfolding extern_block
returns c = read_then _ _ _ _ _ c.in_ok-expect.ensures (read_then _ _ _ _ _ c.in_ok-expect-2.ensures (read_then _ _ _ _ _ c.in_ok-types.ensures (read_then _ _ _ _ _ c.in_ok-tokens.ensures (read_then _ _ _ _ _ c.in_ok-expect-3.ensures refl))))
