use Rattle.std.proofs.Common.{refl}
use Rattle.lp_reading.specs.Symbols.{named_symbol}
use Rattle.lp_types.proofs.Steps.{part_fails, read_then}
use Rattle.lp_reading.proofs.read_symbol.named_symbol.Goals as goal

pub returns-in_err-name : goal.returns-in_err-name
unfolding named_symbol
returns-in_err-name c = part_fails _ _ _ _ _ _ _ c.in_err-name.ensures c.from_residual.ensures.1 refl

pub returns-in_err-expect : goal.returns-in_err-expect
unfolding named_symbol
returns-in_err-expect c = part_fails _ _ _ _ _ _ _ c.in_err-expect.ensures c.from_residual-in_err-expect.ensures.1 (read_then _ _ _ _ _ c.in_ok-name.ensures refl)

pub returns-in_err-found : goal.returns-in_err-found
unfolding named_symbol
returns-in_err-found c = part_fails _ _ _ _ _ _ _ c.in_err-found.ensures c.from_residual-in_err-found.ensures.1 (read_then _ _ _ _ _ c.in_ok-name.ensures (read_then _ _ _ _ _ c.in_ok-expect.ensures refl))

pub returns-in_err-expect-2 : goal.returns-in_err-expect-2
unfolding named_symbol
returns-in_err-expect-2 c = part_fails _ _ _ _ _ _ _ c.in_err-expect-2.ensures c.from_residual-in_err-expect-2.ensures.1 (read_then _ _ _ _ _ c.in_ok-name.ensures (read_then _ _ _ _ _ c.in_ok-expect.ensures (read_then _ _ _ _ _ c.in_ok-found.ensures refl)))

pub returns : goal.returns
unfolding named_symbol
returns c = read_then _ _ _ _ _ c.in_ok-name.ensures (read_then _ _ _ _ _ c.in_ok-expect.ensures (read_then _ _ _ _ _ c.in_ok-found.ensures (read_then _ _ _ _ _ c.in_ok-expect-2.ensures refl)))
