use Rattle.std.proofs.Common.{ap, refl}
use Rattle.lp_reading.specs.Symbols.{literal_or_sign, value_or_sign}
use Rattle.lp_types.proofs.Steps.{answers_as, part_fails, read_then}
use Rattle.lp_types.specs.Left.{left}
use Rattle.lp_reading.proofs.read_symbol.literal_or_sign.Goals as goal

pub returns-in_err-found : goal.returns-in_err-found
unfolding literal_or_sign
returns-in_err-found c = part_fails _ _ _ _ _ _ _ c.in_err-found.ensures c.from_residual.ensures.1 refl

pub returns-in-Some : goal.returns-in-Some
unfolding literal_or_sign
returns-in-Some c = read_then _ _ _ _ _ c.in_ok-found.ensures (ap (λ o. value_or_sign o (left c.takes_value.new.reader)) c.in-Some.is)

pub returns-in-None : goal.returns-in-None
unfolding literal_or_sign
returns-in-None c = answers_as _ _ _ _ _ c.sign.ensures (read_then _ _ _ _ _ c.in_ok-found.ensures (ap (λ o. value_or_sign o (left c.takes_value.new.reader)) c.in-None.is))
