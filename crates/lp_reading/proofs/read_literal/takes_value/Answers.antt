use Rattle.std.proofs.Common.{refl}
use Rattle.lp_reading.specs.Literals.{taken_value}
use Rattle.lp_types.proofs.Steps.{answers_as, read_then}
use Rattle.lp_reading.proofs.read_literal.takes_value.Goals as goal

pub returns-in-None : goal.returns-in-None
unfolding taken_value
returns-in-None c = read_then _ _ _ _ _ c.next_stop-stop.ensures (read_then _ _ _ _ _ c.in-None.ensures refl)

pub returns-in-Some : goal.returns-in-Some
unfolding taken_value
returns-in-Some c = answers_as _ _ _ _ _ c.value.ensures (read_then _ _ _ _ _ c.next_stop-stop.ensures (read_then _ _ _ _ _ c.in-Some.ensures refl))
