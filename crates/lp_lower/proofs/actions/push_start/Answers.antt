use Rattle.std.proofs.Common.{cond, [], ◌∷◌, ◌++◌, map, sym, ap, ◌∙◌, append-nil}
use Rattle.lp_lower.specs.Actions.{action_tree, start_action}
use Rattle.lp_lower.proofs.ActionTrees.{action_more}
use Rattle.lp_lower.proofs.actions.push_start.Goals as goal

pub returns-in_ok-push : goal.returns-in_ok-push
returns-in_ok-push c =
    let all = c.args.all.now in
    let t = start_action c.args.plain.now c.args.rule.now in
    action_more all _ c.in_ok-start_action.field-0 t c.in_ok-push.ensures c.in_ok-start_action.ensures
    ∙ ap (λ b. map action_tree all ++ cond b (t ∷ []) []) (sym c.if-rule.true)

pub returns-else-rule : goal.returns-else-rule
returns-else-rule c =
    let all = c.args.all.now in
    let t = start_action c.args.plain.now c.args.rule.now in
    sym (append-nil (map action_tree all)) ∙ ap (λ b. map action_tree all ++ cond b (t ∷ []) []) (sym c.if-rule.false)
