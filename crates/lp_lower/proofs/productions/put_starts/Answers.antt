use Rattle.std.proofs.Common.{◌≡◌, ◌<◌, length, refl, sym, ap, ◌∙◌, arith}
use Rattle.std.proofs.Math.ListN.{get_or}
use Rattle.std.proofs.Common.{cond}
use Rattle.lp_repr.specs.NameOrder.{nonterminal_cmp}
use Rattle.lp_lower.specs.Productions.{start_entry, start_entries}
use Rattle.lp_syntax.specs.declared.plain.PlainRule.{PlainRule}
use Rattle.lp_lower.proofs.Walking.{put_walk_step, put_walk_end}
use Rattle.lp_lower.proofs.productions.put_starts.Goals as goal

pub loop-rule-preserved : goal.loop-rule-preserved
loop-rule-preserved c =
    let g = c.args.plain.now in
    let r = c.rule-item.result in
    let i = c.loop-rule.rule-index in
    let less : i < length g.rules = omega (arith, ap length c.as_slice-rule-items.ensures) in
    let at : get_or g.rules i r ≡ r = ap (λ l. get_or l i r) (sym c.as_slice-rule-items.ensures) ∙ sym c.rule-item.is in
    put_walk_step nonterminal_cmp (start_entries g) (start_entry g) (λ (x : PlainRule). cond x.public 1 0) (λ n x rest. refl) g.rules i r less at c.loop-rule.action _ c.in_ok-action.ensures c.loop-rule.all.entries _ _ c.in_ok-put_start.ensures c.loop-rule.invariant

pub returns : goal.returns
returns c =
    let g = c.args.plain.now in
    put_walk_end nonterminal_cmp (start_entries g c.loop-rule.action) refl g.rules c.loop-rule.rule-index (omega (arith, ap length c.as_slice-rule-items.ensures)) c.loop-rule.all.entries _ c.loop-rule.invariant
