use Rattle.std.proofs.Common.{[], ap, ◌∙◌}
use Rattle.std.proofs.Math.ListN.{get_or}
use Rattle.std.specs.Option.{option_map_or}
use Rattle.lp_lower.specs.Expansion.{rule_pieces}
use Rattle.lp_syntax.specs.declared.plain.PlainRule.{PlainRule}
use Rattle.lp_lower.proofs.expand.rule_part.Goals as goal

pub returns-in_ok-one_rule_part-in-Some : goal.returns-in_ok-one_rule_part-in-Some
returns-in_ok-one_rule_part-in-Some c =
    let expanded = get_or c.args.sources.now.inlines c.args.number [] in
    c.in_ok-one_rule_part-in-Some.ensures
    ∙ (ap (rule_pieces c.in-Some.rule.now) c.inline.ensures ∙ ap (λ o. option_map_or (λ (r : PlainRule). rule_pieces r expanded) o []) c.in-Some.ensures)
