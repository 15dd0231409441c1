use Rattle.std.proofs.Common.{refl}
use Rattle.lp_reading.specs.Rules.{private_rule}
use Rattle.lp_types.proofs.Steps.{answers_as, read_then}
use Rattle.lp_reading.proofs.read_rule.private_rule.Goals as goal

pub returns-in-Some : goal.returns-in-Some
unfolding private_rule
returns-in-Some c = answers_as _ _ _ _ _ c.some_rule.ensures (read_then _ _ _ _ _ c.in-Some.ensures refl)

pub returns-in-None : goal.returns-in-None
unfolding private_rule
returns-in-None c = read_then _ _ _ _ _ c.in-None.ensures refl
