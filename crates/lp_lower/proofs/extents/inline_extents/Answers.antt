use Rattle.std.proofs.Common.{◌≡◌, ◌<◌, [], ◌∷◌, ◌++◌, cond, length, sym, ap, ◌∙◌, arith}
use Rattle.std.proofs.Math.ListN.{get_or}
use Rattle.lp_lower.specs.RightSides.{rule_sides}
use Rattle.lp_lower.proofs.Counting.{extents_push}
use Rattle.lp_lower.proofs.SideSteps.{sides_step}
use Rattle.lp_lower.proofs.extents.inline_extents.Goals as goal

pub loop-rule-preserved : goal.loop-rule-preserved
loop-rule-preserved c =
    let g = c.args.names.now.plain.now in
    let r = c.rule-item.result in
    let i = c.loop-rule.rule-index in
    let above = c.loop-rule.invariant.0 in
    let sides = cond r.inline (rule_sides g above r) [] in
    let less : i < length g.rules = omega (arith, ap length c.as_slice-rule-items.ensures) in
    let at : get_or g.rules i r ≡ r = ap (λ l. get_or l i r) (sym c.as_slice-rule-items.ensures) ∙ sym c.rule-item.is in
    let extent = c.inline_extent-extent.ensures above (c.as_slice.ensures.value ∙ c.loop-rule.invariant.1) in
    (above ++ sides ∷ [], extents_push above sides _ _ _ c.loop-rule.invariant.1 extent c.in_ok-push.ensures.items, sym (sides_step g above g.rules i r less at) ∙ c.loop-rule.invariant.2)
