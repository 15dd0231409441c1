use Rattle.std.proofs.Common.{ap, refl, sym}
use Rattle.lp_reading.specs.Symbols.{binding}
use Rattle.lp_types.proofs.Steps.{no_memory, part_fails, read_then}
use Rattle.lp_types.specs.Left.{left}
use Rattle.lp_types.specs.Reading.{Read}
use Rattle.lp_reading.proofs.read_symbol.binding.Goals as goal

pub returns-in_err-id : goal.returns-in_err-id
unfolding binding
returns-in_err-id c = part_fails _ _ _ _ _ _ _ c.in_err-id.ensures c.from_residual.ensures.1 (read_then _ _ _ _ _ c.passes-mutable.ensures refl)

pub returns-in_err-name : goal.returns-in_err-name
returns-in_err-name c = no_memory _ _ _ _ c.from_residual-in_err-name.ensures.1

pub returns : goal.returns
unfolding binding
returns c = read_then _ _ _ _ _ c.passes-mutable.ensures (read_then _ _ _ _ _ c.in_ok-id.ensures (ap (λ name. Read name (left c.text.new.self)) (sym c.in_ok-name.ensures)))
