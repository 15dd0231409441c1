use Rattle.std.proofs.Common.{sym, arith}
use Rattle.lp_lower.specs.ActionNumbers.{action_count}
use Rattle.lp_lower.proofs.Walking.{summed_more}
use Rattle.lp_lower.proofs.expand.actions_in.Goals as goal

pub loop-alternative-preserved : goal.loop-alternative-preserved
loop-alternative-preserved c = summed_more (action_count c.args.names.now.plain.now) c.args.alternatives.now c.loop-alternative.alternative-index c.alternative-item.result (omega arith) (sym c.alternative-item.is) c.loop-alternative.count _ _ c.in_ok-count.ensures c.in_ok-more.ensures c.loop-alternative.invariant
