use Rattle.std.proofs.Common.{cond, [], ◌++◌, map, sym, ap, ◌∙◌, append-nil}
use Rattle.lp_lower.specs.Actions.{action_tree, inline_action}
use Rattle.lp_lower.specs.Expansion.{combined}
use Rattle.lp_lower.proofs.actions.push_replaced.Goals as goal

pub returns-in_ok-push_inlines : goal.returns-in_ok-push_inlines
returns-in_ok-push_inlines c =
    let all = map action_tree c.args.all.now in
    let inline = inline_action c.args.rule.now c.args.user in
    let combinations = combined c.args.names.now.plain.now c.args.sources.now c.args.alternative.now in
    c.in_ok-push_inlines.ensures
    ∙ ap (λ l. all ++ l) (ap (map inline) c.in_ok-combinations.ensures ∙ ap (λ b. cond b (map inline combinations) []) (sym c.if-is_replaced.true ∙ c.is_replaced.ensures))

pub returns-else-is_replaced : goal.returns-else-is_replaced
returns-else-is_replaced c =
    let all = map action_tree c.args.all.now in
    let inline = inline_action c.args.rule.now c.args.user in
    let combinations = combined c.args.names.now.plain.now c.args.sources.now c.args.alternative.now in
    sym (append-nil all) ∙ ap (λ b. all ++ cond b (map inline combinations) []) (sym c.if-is_replaced.false ∙ c.is_replaced.ensures)
