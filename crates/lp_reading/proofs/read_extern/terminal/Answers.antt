use Rattle.std.proofs.Common.{ap, refl}
use Rattle.lp_reading.specs.Externs.{quoted_or_bare, terminal}
use Rattle.lp_types.proofs.Steps.{answers_as, part_fails, read_then}
use Rattle.lp_types.specs.Left.{left}
use Rattle.lp_reading.proofs.read_extern.terminal.Goals as goal

pub returns-in_err-found : goal.returns-in_err-found
unfolding terminal
returns-in_err-found c = part_fails _ _ _ _ _ _ _ c.in_err-found.ensures c.from_residual.ensures.1 refl

pub returns-in-Some : goal.returns-in-Some
unfolding terminal
returns-in-Some c = read_then _ _ _ _ _ c.in_ok-found.ensures (ap (λ o. quoted_or_bare o (left c.takes_value.new.reader)) c.in-Some.is)

pub returns-in-None : goal.returns-in-None
unfolding terminal
returns-in-None c = answers_as _ _ _ _ _ c.bare_terminal.ensures (read_then _ _ _ _ _ c.in_ok-found.ensures (ap (λ o. quoted_or_bare o (left c.takes_value.new.reader)) c.in-None.is))
