use Rattle.std.proofs.Common.{◌≡◌, ◌+◌, ◌<◌, length, map, refl, sym, ap, ◌∙◌, arith}
use Rattle.std.proofs.Math.ListN.{get_or}
use Rattle.lp_lower.specs.ActionNumbers.{actions_in}
use Rattle.lp_lower.specs.Actions.{action_tree, actions_from, rule_actions}
use Rattle.lp_syntax.specs.declared.plain.PlainRule.{PlainRule}
use Rattle.lp_lower.proofs.Walking.{walk_step, walk_end}
use Rattle.lp_lower.proofs.actions.push_rules.Goals as goal

pub loop-rule-preserved : goal.loop-rule-preserved
loop-rule-preserved c =
    let g = c.args.names.now.plain.now in
    let s = c.args.sources.now in
    let r = c.rule-item.result in
    let i = c.loop-rule.rule-index in
    let less : i < length g.rules = omega (arith, ap length c.as_slice-rule-items.ensures) in
    let at : get_or g.rules i r ≡ r = ap (λ l. get_or l i r) (sym c.as_slice-rule-items.ensures) ∙ sym c.rule-item.is in
    walk_step (actions_from g s) (λ n (x : PlainRule). rule_actions g s x n x.alternatives) (λ (x : PlainRule). actions_in g x.alternatives) (λ n x rest. refl) g.rules i r less at c.loop-rule.next _ (c.in_ok-next.ensures ∙ ap (λ k. c.loop-rule.next + k) (c.in_ok-count.ensures ∙ ap (actions_in g) c.as_slice.ensures)) (map action_tree c.loop-rule.all) _ _ c.in_ok-push_rule.ensures c.loop-rule.invariant

pub returns : goal.returns
returns c =
    let g = c.args.names.now.plain.now in
    walk_end (actions_from g c.args.sources.now c.loop-rule.next) refl g.rules c.loop-rule.rule-index (omega (arith, ap length c.as_slice-rule-items.ensures)) (map action_tree c.loop-rule.all) _ c.loop-rule.invariant
