use Rattle.std.proofs.Common.{ap, refl, sym}
use Rattle.lp_reading.specs.Externs.{bare_terminal}
use Rattle.lp_repr.specs.declared.repr.TerminalString.TheVariants.{Bare}
use Rattle.lp_types.proofs.Steps.{no_memory, part_fails, read_then}
use Rattle.lp_types.specs.Left.{left}
use Rattle.lp_types.specs.Reading.{Read}
use Rattle.lp_reading.proofs.read_extern.bare_terminal.Goals as goal

pub returns-in_err-id : goal.returns-in_err-id
unfolding bare_terminal
returns-in_err-id c = part_fails _ _ _ _ _ _ _ c.in_err-id.ensures c.from_residual.ensures.1 refl

pub returns-in_err-name : goal.returns-in_err-name
returns-in_err-name c = no_memory _ _ _ _ c.from_residual-in_err-name.ensures.1

pub returns : goal.returns
unfolding bare_terminal
returns c = read_then _ _ _ _ _ c.in_ok-id.ensures (ap (λ name. Read (Bare name) (left c.text.new.self)) (sym c.in_ok-name.ensures))
