use Rattle.std.proofs.Common.{sym, ap, ◌∙◌}
use Rattle.lp_types.specs.Left.{left}
use Rattle.lp_types.specs.Reading.{at_end, nothing_if}
use Rattle.lp_types.proofs.Steps.{fails_here}
use Rattle.lp_types.proofs.reader.Reader.expect_end.Goals as goal

pub returns-then-is_end : goal.returns-then-is_end
unfolding at_end
returns-then-is_end c = ap (λ b. nothing_if b (left c.args.self.now)) (sym c.is_end.ensures ∙ c.if-is_end.true)

pub returns-else-is_end : goal.returns-else-is_end
unfolding at_end
returns-else-is_end c = fails_here _ _ _ c.error.ensures (ap (λ b. nothing_if b (left c.args.self.now)) (sym c.is_end.ensures ∙ c.if-is_end.false))
