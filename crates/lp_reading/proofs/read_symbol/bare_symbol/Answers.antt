use Rattle.std.proofs.Common.{ap, sym}
use Rattle.lp_reading.specs.Symbols.{bare_symbol, bound_to}
use Rattle.lp_types.proofs.Steps.{answers_as, no_memory}
use Rattle.lp_types.specs.Left.{left}
use Rattle.lp_reading.proofs.read_symbol.bare_symbol.Goals as goal

pub returns-in_err-name : goal.returns-in_err-name
returns-in_err-name c = no_memory _ _ _ _ c.from_residual.ensures.1

pub returns : goal.returns
unfolding bare_symbol
returns c = answers_as _ _ _ _ _ c.bound_to.ensures (ap (λ name. bound_to name (left c.args.reader.now)) (sym c.in_ok-name.ensures))
