use Rattle.std.proofs.Common.{ap, refl, sym}
use Rattle.lp_reading.specs.Patterns.{hole_by}
use Rattle.lp_types.proofs.Steps.{no_memory, part_fails, read_then}
use Rattle.lp_types.specs.Left.{left}
use Rattle.lp_types.specs.Reading.{Read}
use Rattle.lp_reading.proofs.read_pattern.hole.Goals as goal

pub returns-in_err-ty : goal.returns-in_err-ty
unfolding hole_by
returns-in_err-ty c = part_fails _ _ _ _ _ _ _ c.in_err-ty.ensures c.from_residual.ensures.1 refl

pub returns-in_err-expect : goal.returns-in_err-expect
unfolding hole_by
returns-in_err-expect c = part_fails _ _ _ _ _ _ _ c.in_err-expect.ensures c.from_residual-in_err-expect.ensures.1 (read_then _ _ _ _ _ c.in_ok-ty.ensures refl)

pub returns-in_err-parts : goal.returns-in_err-parts
returns-in_err-parts c = no_memory _ _ _ _ c.from_residual-in_err-parts.ensures.1

pub returns : goal.returns
unfolding hole_by
returns c = read_then _ _ _ _ _ c.in_ok-ty.ensures (read_then _ _ _ _ _ c.in_ok-expect.ensures (ap (λ parts. Read parts (left c.expect.new.self)) (sym c.in_ok-parts.ensures)))
