use Rattle.std.proofs.Common.{refl}
use Rattle.lp_reading.specs.Symbols.{more_symbols}
use Rattle.lp_types.proofs.Steps.{read_then}
use Rattle.lp_reading.proofs.read_symbol.more_symbols.Goals as goal

pub returns-in-Some : goal.returns-in-Some
unfolding more_symbols
returns-in-Some c = read_then _ _ _ _ _ c.in-Some.ensures refl

pub returns-in-None : goal.returns-in-None
unfolding more_symbols
returns-in-None c = read_then _ _ _ _ _ c.in-None.ensures c.no_fallible.ensures
