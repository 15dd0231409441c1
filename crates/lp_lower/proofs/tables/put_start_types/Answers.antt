use Rattle.std.proofs.Common.{◌≡◌, ◌<◌, List, length, map, refl, sym, ap, ◌∙◌, arith}
use Rattle.std.proofs.Math.ListN.{get_or}
use Rattle.std.specs.Prelude.{filter}
use Rattle.lp_repr.specs.NameOrder.{nonterminal_cmp}
use Rattle.lp_lower.specs.Lowering.{start_type, type_entry}
use Rattle.lp_syntax.specs.declared.plain.PlainRule.{PlainRule}
use Rattle.lp_lower.proofs.Walking.{put_filtered, put_walk_end}
use Rattle.lp_lower.proofs.tables.put_start_types.Goals as goal

pub loop-rule-preserved : goal.loop-rule-preserved
loop-rule-preserved c =
    let g = c.args.plain.now in
    let r = c.rule-item.result in
    let i = c.loop-rule.rule-index in
    let less : i < length g.rules = omega (arith, ap length c.as_slice-rule-items.ensures) in
    let at : get_or g.rules i r ≡ r = ap (λ l. get_or l i r) (sym c.as_slice-rule-items.ensures) ∙ sym c.rule-item.is in
    put_filtered nonterminal_cmp (start_type g) (λ (x : PlainRule). x.public) g.rules i r less at r.public refl (map type_entry c.loop-rule.types.entries) _ _ c.in_ok-put_start_type.ensures c.loop-rule.invariant

pub returns : goal.returns
returns c =
    let g = c.args.plain.now in
    put_walk_end nonterminal_cmp (λ (rs : List PlainRule). map (start_type g) (filter (λ (x : PlainRule). x.public) rs)) refl g.rules c.loop-rule.rule-index (omega (arith, ap length c.as_slice-rule-items.ensures)) (map type_entry c.loop-rule.types.entries) _ c.loop-rule.invariant
