use Rattle.lp_types.proofs.Gathered.{read_more, read_all}
use Rattle.lp_types.proofs.tokens.plain_tokens.Goals as goal

pub loop-item-preserved : goal.loop-item-preserved
loop-item-preserved c = read_more _ _ _ _ _ _ _ c.loop-item.invariant c.in-Some.ensures.steps.0 c.in_ok-push.ensures.items

pub returns : goal.returns
returns c = read_all _ _ _ _ c.loop-item.invariant c.in_default.ensures.steps.0
