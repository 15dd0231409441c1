use Rattle.std.proofs.Common.{ap, refl, sym, ◌∙◌}
use Rattle.lp_reading.specs.Symbols.{alternative}
use Rattle.lp_types.proofs.Steps.{no_memory, part_fails, read_then}
use Rattle.lp_types.specs.Left.{left}
use Rattle.lp_types.specs.Reading.{Read}
use Rattle.lp_reading.proofs.read_symbol.alternative.Goals as goal

pub returns-in_err-found : goal.returns-in_err-found
unfolding alternative
returns-in_err-found c = part_fails _ _ _ _ _ _ _ c.in_err-found.ensures c.from_residual.ensures.1 refl

pub returns-in_err-tail : goal.returns-in_err-tail
unfolding alternative
returns-in_err-tail c = part_fails _ _ _ _ _ _ _ c.in_err-tail.ensures c.from_residual-in_err-tail.ensures.1 (read_then _ _ _ _ _ c.in_ok-found.ensures refl)

pub returns-in_err-code : goal.returns-in_err-code
returns-in_err-code c = no_memory _ _ _ _ c.from_residual-in_err-code.ensures.1

pub returns : goal.returns
unfolding alternative
returns c = read_then _ _ _ _ _ c.in_ok-found.ensures (read_then _ _ _ _ _ c.in_ok-tail.ensures (ap (λ code. Read (record { symbols = c.in_ok-found.found; fallible = c.in_ok-tail.tail.0; code = code }) (left c.arrow.new.reader)) (sym (c.in_ok-code.ensures ∙ c.trim.ensures.trim))))
