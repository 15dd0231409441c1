use Rattle.std.proofs.Common.{[], ap, ◌∙◌}
use Rattle.std.proofs.Math.ListN.{get_or, get_or-map}
use Rattle.std.specs.Option.{option_map_or}
use Rattle.lp_lower.specs.Extents.{extent_of}
use Rattle.lp_lower.specs.RightSides.{rule_options}
use Rattle.lp_syntax.specs.declared.plain.PlainRule.{PlainRule}
use Rattle.lp_lower.proofs.extents.rule_option_extent.Goals as goal

pub returns-in-Some : goal.returns-in-Some
returns-in-Some c = λ sides e.
    let n = c.args.number in
    c.option_extent.ensures (get_or sides n []) (c.extent_at.ensures ∙ (ap (λ l. get_or l n (extent_of [])) e ∙ get_or-map extent_of sides n []))
    ∙ ap (λ o. extent_of (option_map_or (λ (r : PlainRule). rule_options r (get_or sides n [])) o [])) c.in-Some.ensures
