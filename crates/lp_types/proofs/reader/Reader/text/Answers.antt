use Rattle.std.proofs.Common.{refl}
use Rattle.lp_types.specs.Reading.{text}
use Rattle.lp_types.proofs.Steps.{read_then, fails_here}
use Rattle.lp_types.proofs.reader.Reader.text.Goals as goal

pub returns-in-Some : goal.returns-in-Some
unfolding text
returns-in-Some c = read_then _ _ _ _ _ c.in-Some.ensures refl

pub returns-in-None : goal.returns-in-None
unfolding text
returns-in-None c = fails_here _ _ _ c.error.ensures (read_then _ _ _ _ _ c.in-None.ensures refl)
