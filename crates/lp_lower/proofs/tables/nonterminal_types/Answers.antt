use Rattle.std.proofs.Common.{[], map, sym, ap, ◌∙◌}
use Rattle.lp_repr.specs.NameOrder.{nonterminal_cmp}
use Rattle.lp_lower.specs.Lowering.{kept_rules, kept_type, public_rules, start_type, type_entry}
use Rattle.lp_lower.specs.Productions.{put_all}
use Rattle.lp_lower.proofs.Putting.{put_all-append}
use Rattle.lp_lower.proofs.tables.nonterminal_types.Goals as goal

pub returns : goal.returns
returns c =
    let g = c.args.plain.now in
    let starts = map (start_type g) (public_rules g) in
    let kept = map kept_type (kept_rules g) in
    c.in_ok-put_rule_types.ensures
    ∙ (ap (λ es. put_all nonterminal_cmp es kept) (c.in_ok-put_start_types.ensures ∙ ap (λ es. put_all nonterminal_cmp (map type_entry es) starts) c.new-types.ensures.empty)
    ∙ sym (put_all-append nonterminal_cmp [] starts kept))
