use Rattle.std.proofs.Common.{◌≡◌, ◌<◌, true, false, map, length, sym, ap, ◌∙◌, arith}
use Rattle.std.proofs.Math.ListN.{get_or}
use Rattle.std.specs.Map.Iter.{deref}
use Rattle.lp_lower.specs.Places.{least, least_of}
use Rattle.lp_lower.specs.Refusals.{below_among}
use Rattle.lp_lower.proofs.OrderSteps.{order_step}
use Rattle.lp_lower.proofs.refusals.inline_order.Goals as goal
use Rattle.lp_lower.proofs.refusals.inline_order.Goals.{then-rule+in_ok-symbols, else-rule}

pub loop-number-preserved : goal.loop-number-preserved
loop-number-preserved c =
    let g = c.args.names.now.plain.now in
    let r = c.index-rules-number.result in
    let i = c.loop-number.number in
    let less : i < length g.rules = omega (arith, ap length c.as_slice-rules.ensures) in
    let at : get_or g.rules i r ≡ r = ap (λ l. get_or l i r) (sym c.as_slice-rules.ensures) ∙ sym c.index-rules-number.is in
    let step = order_step g g.rules i r less at in
    elim c.if-rule.branch [
      | then-rule+in_ok-symbols w ↦ step true w.if-rule.true c.loop-number.found _ _ (w.found-is ∙ (w.least-found.ensures ∙ ap (least c.loop-number.found) (w.below.ensures ∙ ap (λ s. least_of (below_among g i s)) (ap (map deref) w.as_slice.ensures.value ∙ w.in_ok-symbols.ensures)))) c.loop-number.invariant
      | else-rule w ↦ step false w.if-rule.false c.loop-number.found _ _ w.found-is c.loop-number.invariant
    ]
