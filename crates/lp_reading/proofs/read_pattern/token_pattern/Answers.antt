use Rattle.std.proofs.Common.{ap, refl, sym}
use Rattle.lp_reading.specs.Patterns.{token_pattern}
use Rattle.lp_types.proofs.Steps.{no_memory, part_fails, read_then}
use Rattle.lp_types.specs.Left.{left}
use Rattle.lp_types.specs.Reading.{Read}
use Rattle.lp_reading.proofs.read_pattern.token_pattern.Goals as goal

pub returns-in_err-parts : goal.returns-in_err-parts
unfolding token_pattern
returns-in_err-parts c = part_fails _ _ _ _ _ _ _ c.in_err-parts.ensures c.from_residual.ensures.1 refl

pub returns-in_err-made : goal.returns-in_err-made
returns-in_err-made c = no_memory _ _ _ _ c.from_residual-in_err-made.ensures.1

pub returns : goal.returns
unfolding token_pattern
returns c = read_then _ _ _ _ _ c.in_ok-parts.ensures (ap (λ p. Read p (left c.pattern.new.reader)) (sym c.in_ok-made.ensures))
