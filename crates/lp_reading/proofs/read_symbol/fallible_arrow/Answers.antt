use Rattle.std.proofs.Common.{refl}
use Rattle.lp_reading.specs.Symbols.{fallible_arrow}
use Rattle.lp_types.proofs.Steps.{fails_here, read_then}
use Rattle.lp_reading.proofs.read_symbol.fallible_arrow.Goals as goal

pub returns-in-Some : goal.returns-in-Some
unfolding fallible_arrow
returns-in-Some c = read_then _ _ _ _ _ c.in-Some.ensures refl

pub returns-in-None : goal.returns-in-None
unfolding fallible_arrow
returns-in-None c = fails_here _ _ _ c.error.ensures (read_then _ _ _ _ _ c.in-None.ensures refl)
