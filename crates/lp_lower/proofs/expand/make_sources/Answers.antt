use Rattle.std.proofs.Common.{◌≡◌, ◌+◌, ◌<◌, length, sym, ap, ◌∙◌, arith}
use Rattle.std.proofs.Math.ListN.{get_or}
use Rattle.lp_lower.specs.ActionNumbers.{actions_in}
use Rattle.lp_lower.proofs.Sourcing.{sourced_none, sourced_more, sourced_all}
use Rattle.lp_lower.proofs.expand.make_sources.Goals as goal

pub loop-rule-init : goal.loop-rule-init
loop-rule-init c = sourced_none c.args.names.now.plain.now c.args.frame c.in_ok-lookahead.lookahead c.in_ok-lookbehind.lookbehind c.empty-inlines.result c.requires.framed c.in_ok-lookahead.ensures c.in_ok-lookbehind.ensures c.empty-inlines.ensures

pub loop-rule-preserved : goal.loop-rule-preserved
loop-rule-preserved c =
    let g = c.args.names.now.plain.now in
    let r = c.rule-item.result in
    let i = c.loop-rule.rule-index in
    let less : i < length g.rules = omega (arith, ap length c.as_slice-rule-items.ensures) in
    let at : get_or g.rules i r ≡ r = ap (λ l. get_or l i r) (sym c.as_slice-rule-items.ensures) ∙ sym c.rule-item.is in
    sourced_more g c.loop-rule.sources c.loop-rule.first i r less at _ c.in_ok-expanded.expanded _ c.in_ok-expanded.ensures c.in_ok-push.ensures (c.in_ok-first.ensures ∙ ap (λ n. c.loop-rule.first + n) (c.in_ok-count.ensures ∙ ap (actions_in g) c.as_slice.ensures)) c.loop-rule.invariant

pub returns : goal.returns
returns c = sourced_all c.args.names.now.plain.now c.loop-rule.sources c.loop-rule.first c.loop-rule.rule-index (omega (arith, ap length c.as_slice-rule-items.ensures)) c.loop-rule.invariant
