use Rattle.std.proofs.Common.{refl}
use Rattle.lp_reading.specs.Symbols.{no_fallible}
use Rattle.lp_types.proofs.Steps.{read_then}
use Rattle.lp_reading.proofs.read_symbol.no_fallible.Goals as goal

pub returns-in-Some : goal.returns-in-Some
unfolding no_fallible
returns-in-Some c = read_then _ _ _ _ _ c.in-Some.ensures refl

pub returns-in-None : goal.returns-in-None
unfolding no_fallible
returns-in-None c = read_then _ _ _ _ _ c.in-None.ensures refl
