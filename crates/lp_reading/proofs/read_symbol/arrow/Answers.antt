use Rattle.std.proofs.Common.{refl}
use Rattle.lp_reading.specs.Symbols.{arrow}
use Rattle.lp_types.proofs.Steps.{answers_as, read_then}
use Rattle.lp_reading.proofs.read_symbol.arrow.Goals as goal

pub returns-in-Some : goal.returns-in-Some
unfolding arrow
returns-in-Some c = read_then _ _ _ _ _ c.in-Some.ensures refl

pub returns-in-None : goal.returns-in-None
unfolding arrow
returns-in-None c = answers_as _ _ _ _ _ c.fallible_arrow.ensures (read_then _ _ _ _ _ c.in-None.ensures refl)
