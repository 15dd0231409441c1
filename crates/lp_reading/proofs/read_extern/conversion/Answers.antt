use Rattle.std.proofs.Common.{refl}
use Rattle.lp_reading.specs.Externs.{conversion}
use Rattle.lp_types.proofs.Steps.{part_fails, read_then}
use Rattle.lp_reading.proofs.read_extern.conversion.Goals as goal

pub returns-in_err-name : goal.returns-in_err-name
unfolding conversion
returns-in_err-name c = part_fails _ _ _ _ _ _ _ c.in_err-name.ensures c.from_residual.ensures.1 (read_then _ _ _ _ _ c.next_place-place.ensures refl)

pub returns-in_err-_code : goal.returns-in_err-_code
unfolding conversion
returns-in_err-_code c = part_fails _ _ _ _ _ _ _ c.in_err-_code.ensures c.from_residual-in_err-_code.ensures.1 (read_then _ _ _ _ _ c.next_place-place.ensures (read_then _ _ _ _ _ c.in_ok-name.ensures refl))

pub returns-in_err-pattern : goal.returns-in_err-pattern
unfolding conversion
returns-in_err-pattern c = part_fails _ _ _ _ _ _ _ c.in_err-pattern.ensures c.from_residual-in_err-pattern.ensures.1 (read_then _ _ _ _ _ c.next_place-place.ensures (read_then _ _ _ _ _ c.in_ok-name.ensures (read_then _ _ _ _ _ c.in_ok-_code.ensures refl)))

pub returns : goal.returns
unfolding conversion
returns c = read_then _ _ _ _ _ c.next_place-place.ensures (read_then _ _ _ _ _ c.in_ok-name.ensures (read_then _ _ _ _ _ c.in_ok-_code.ensures (read_then _ _ _ _ _ c.in_ok-pattern.ensures refl)))
