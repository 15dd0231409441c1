use Rattle.std.proofs.Common.{◌≡◌, ◌<◌, List, length, map, refl, sym, ap, ◌∙◌, arith}
use Rattle.std.proofs.Math.ListN.{get_or}
use Rattle.std.specs.Prelude.{filter}
use Rattle.lp_lower.specs.Actions.{action_tree, start_action}
use Rattle.lp_syntax.specs.declared.plain.PlainRule.{PlainRule}
use Rattle.lp_lower.proofs.Walking.{filtered_step, walk_end}
use Rattle.lp_lower.proofs.actions.push_starts.Goals as goal

pub loop-rule-preserved : goal.loop-rule-preserved
loop-rule-preserved c =
    let g = c.args.plain.now in
    let r = c.rule-item.result in
    let i = c.loop-rule.rule-index in
    let less : i < length g.rules = omega (arith, ap length c.as_slice-rule-items.ensures) in
    let at : get_or g.rules i r ≡ r = ap (λ l. get_or l i r) (sym c.as_slice-rule-items.ensures) ∙ sym c.rule-item.is in
    filtered_step (start_action g) (λ (x : PlainRule). x.public) g.rules i r less at (map action_tree c.loop-rule.all) _ _ c.in_ok-push_start.ensures c.loop-rule.invariant

pub returns : goal.returns
returns c =
    let g = c.args.plain.now in
    walk_end (λ (rs : List PlainRule). map (start_action g) (filter (λ (x : PlainRule). x.public) rs)) refl g.rules c.loop-rule.rule-index (omega (arith, ap length c.as_slice-rule-items.ensures)) (map action_tree c.loop-rule.all) _ c.loop-rule.invariant
