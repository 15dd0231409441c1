use Rattle.std.proofs.Common.{◌∙◌, sym, arith, Some, None}
use Rattle.lp_valid.proofs.ErrorTerminal.{first_error, none_stands, stands_early, stands_last}
use Rattle.lp_valid.proofs.terminals.failing_error.Goals as goal

pub returns-in-Some : goal.returns-in-Some
returns-in-Some c = stands_early c.args.terminals.now c.in-Some.place (omega arith) (first_error c.args.terminals.now (Some c.in-Some.place) c.in-Some.ensures)

pub returns-in_default : goal.returns-in_default
returns-in_default c = stands_last c.args.terminals.now c.in-Some.place (omega arith) (first_error c.args.terminals.now (Some c.in-Some.place) c.in-Some.ensures)

pub returns-in_default-2 : goal.returns-in_default-2
returns-in_default-2 c = none_stands c.args.terminals.now (first_error c.args.terminals.now None (sym c.in_default.is ∙ c.first_error.ensures))
