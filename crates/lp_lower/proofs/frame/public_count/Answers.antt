use Rattle.std.proofs.Common.{cond, refl, sym, arith}
use Rattle.lp_syntax.specs.declared.plain.PlainRule.{PlainRule}
use Rattle.lp_lower.proofs.Walking.{summed_more}
use Rattle.lp_lower.proofs.frame.public_count.Goals as goal

pub loop-rule-preserved : goal.loop-rule-preserved
loop-rule-preserved c = summed_more (λ (r : PlainRule). cond r.public 1 0) c.args.rules.now c.loop-rule.rule-index c.rule-item.result (omega arith) (sym c.rule-item.is) c.loop-rule.count _ _ c.in_ok-count.ensures refl c.loop-rule.invariant
