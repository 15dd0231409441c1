use Rattle.std.proofs.Common.{map}
use Rattle.lp_lower.specs.Actions.{action_tree, inline_action}
use Rattle.lp_lower.proofs.Walking.{mapped_push}
use Rattle.lp_lower.proofs.actions.push_inlines.Goals as goal

pub loop-combination-preserved : goal.loop-combination-preserved
loop-combination-preserved c = mapped_push action_tree (inline_action c.args.rule.now c.args.user) (map action_tree c.args.all.now) c.loop-combination.all _ c.in_ok-inline_action.field-0 c.loop-combination.yielded c.in-Some.combination c.in_ok-push.ensures c.in_ok-inline_action.ensures c.loop-combination.invariant
