use Rattle.std.proofs.Common.{Some, ap, sym, ◌∙◌}
use Rattle.lp_types.proofs.Steps.{no_memory}
use Rattle.lp_types.specs.Left.{left}
use Rattle.lp_types.specs.Reading.{Read}
use Rattle.lp_reading.proofs.read_head.next_attribute.Goals as goal

pub returns-in_err-copy-in-Some : goal.returns-in_err-copy-in-Some
returns-in_err-copy-in-Some c = no_memory _ _ _ _ c.from_residual.ensures.1

pub returns-in_ok-copy-in-Some : goal.returns-in_ok-copy-in-Some
returns-in_ok-copy-in-Some c = c.in-Some.ensures ∙ ap (λ text. Read (Some text) (left c.takes.new.self)) (sym c.in_ok-copy-in-Some.ensures)
