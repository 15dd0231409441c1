use Rattle.std.proofs.Common.{◌≡◌, ◌+◌, ◌<◌, length, map, refl, sym, ap, ◌∙◌, arith}
use Rattle.std.proofs.Math.ListN.{get_or}
use Rattle.lp_lower.specs.ActionNumbers.{action_count}
use Rattle.lp_lower.specs.Actions.{action_tree, alternative_actions, rule_actions}
use Rattle.lp_lower.proofs.Walking.{walk_step, walk_end}
use Rattle.lp_lower.proofs.actions.push_rule.Goals as goal

pub loop-alternative-preserved : goal.loop-alternative-preserved
loop-alternative-preserved c =
    let g = c.args.names.now.plain.now in
    let s = c.args.sources.now in
    let r = c.args.rule.now in
    let a = c.alternative-item.result in
    let i = c.loop-alternative.alternative-index in
    let less : i < length r.alternatives = omega (arith, ap length c.as_slice-alternative-items.ensures) in
    let at : get_or r.alternatives i a ≡ a = ap (λ l. get_or l i a) (sym c.as_slice-alternative-items.ensures) ∙ sym c.alternative-item.is in
    walk_step (rule_actions g s r) (alternative_actions g s r) (action_count g) (λ n x rest. refl) r.alternatives i a less at c.loop-alternative.user _ (c.in_ok-user.ensures ∙ ap (λ k. c.loop-alternative.user + k) c.in_ok-count.ensures) (map action_tree c.loop-alternative.all) _ _ c.in_ok-push_alternative.ensures c.loop-alternative.invariant

pub returns : goal.returns
returns c =
    let g = c.args.names.now.plain.now in
    let r = c.args.rule.now in
    walk_end (rule_actions g c.args.sources.now r c.loop-alternative.user) refl r.alternatives c.loop-alternative.alternative-index (omega (arith, ap length c.as_slice-alternative-items.ensures)) (map action_tree c.loop-alternative.all) _ c.loop-alternative.invariant
