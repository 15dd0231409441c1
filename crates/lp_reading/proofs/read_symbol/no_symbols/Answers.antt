use Rattle.std.proofs.Common.{ap, refl, sym}
use Rattle.lp_reading.specs.Symbols.{no_symbols}
use Rattle.lp_types.proofs.Steps.{part_fails, read_then}
use Rattle.lp_types.specs.Left.{left}
use Rattle.lp_types.specs.Reading.{Read}
use Rattle.lp_reading.proofs.read_symbol.no_symbols.Goals as goal

pub returns-in_err-expect : goal.returns-in_err-expect
unfolding no_symbols
returns-in_err-expect c = part_fails _ _ _ _ _ _ _ c.in_err-expect.ensures c.from_residual.ensures.1 refl

pub returns : goal.returns
unfolding no_symbols
returns c = read_then _ _ _ _ _ c.in_ok-expect.ensures (ap (λ xs. Read xs (left c.expect.new.self)) (sym c.new-none.ensures.items))
