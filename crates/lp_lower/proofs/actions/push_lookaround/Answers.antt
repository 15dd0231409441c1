use Rattle.std.proofs.Common.{cond, [], ◌∷◌, ◌++◌, map, sym, ap, ◌∙◌, append-nil}
use Rattle.lp_lower.specs.Actions.{action_tree, lookaround_action}
use Rattle.lp_lower.proofs.ActionTrees.{action_more}
use Rattle.lp_lower.proofs.actions.push_lookaround.Goals as goal

pub returns-in_ok-push : goal.returns-in_ok-push
returns-in_ok-push c =
    let all = c.args.all.now in
    let t = lookaround_action c.args.plain.now c.args.which in
    action_more all _ c.in_ok-lookaround_action.field-0 t c.in_ok-push.ensures c.in_ok-lookaround_action.ensures
    ∙ ap (λ b. map action_tree all ++ cond b (t ∷ []) []) (sym c.if-used.true)

pub returns-else-used : goal.returns-else-used
returns-else-used c =
    let all = c.args.all.now in
    let t = lookaround_action c.args.plain.now c.args.which in
    sym (append-nil (map action_tree all)) ∙ ap (λ b. map action_tree all ++ cond b (t ∷ []) []) (sym c.if-used.false)
