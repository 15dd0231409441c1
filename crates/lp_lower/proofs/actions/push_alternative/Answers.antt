use Rattle.std.proofs.Common.{cond, [], map}
use Rattle.lp_lower.specs.ActionNumbers.{is_replaced}
use Rattle.lp_lower.specs.Actions.{action_tree, inline_action, user_action}
use Rattle.lp_lower.specs.Expansion.{combined}
use Rattle.lp_lower.proofs.ActionTrees.{action_more, action_then}
use Rattle.lp_lower.proofs.actions.push_alternative.Goals as goal

pub returns : goal.returns
returns c =
    let g = c.args.names.now.plain.now in
    let r = c.args.rule.now in
    let a = c.args.alternative.now in
    let all = c.args.all.now in
    let t = user_action g r a in
    let inlines = cond (is_replaced g a) (map (inline_action r c.args.user) (combined g c.args.sources.now a)) [] in
    action_then (map action_tree all) _ _ inlines t (action_more all _ c.in_ok-user_action.field-0 t c.in_ok-push.ensures c.in_ok-user_action.ensures) c.in_ok-push_replaced.ensures
