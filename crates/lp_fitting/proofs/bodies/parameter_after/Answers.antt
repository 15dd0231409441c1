use Rattle.std.proofs.Common.{sym, ◌∙◌}
use Rattle.lp_program.specs.Trees.{content}
use Rattle.lp_program.proofs.Parameters.{row_other, row_told}
use Rattle.lp_fitting.proofs.bodies.parameter_after.Goals as goal

pub returns-then-eq : goal.returns-then-eq
returns-then-eq c = c.first_or.ensures ∙ row_told c.args.last.now (content c.args.entry.now) (sym c.eq.ensures ∙ c.if-eq.true)

pub returns : goal.returns
returns c = row_other c.args.last.now (content c.args.entry.now) (sym c.eq.ensures ∙ c.if-eq.false)
