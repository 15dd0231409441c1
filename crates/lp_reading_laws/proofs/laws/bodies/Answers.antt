use Rattle.lp_reading_laws.proofs.Choosing.Inlined.{others_are_no_inlined}
use Rattle.lp_reading_laws.proofs.laws.bodies.Goals as goal

pub returns : goal.returns
returns c = others_are_no_inlined
