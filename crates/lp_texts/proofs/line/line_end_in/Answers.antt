use Rattle.std.proofs.Common.{arith, sym, ◌∙◌}
use Rattle.lp_texts.proofs.line.line_end_in.Goals as goal

pub returns-then-ends_line : goal.returns-then-ends_line
returns-then-ends_line c = (omega arith, omega arith, sym c.ends_line.ensures ∙ c.if-ends_line.true, c.loop-i.invariant)
