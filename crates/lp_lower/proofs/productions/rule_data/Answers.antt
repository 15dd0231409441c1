use Rattle.std.proofs.Common.{map, ap, ◌∙◌}
use Rattle.lp_lower.specs.Expansion.{expanded_all}
use Rattle.lp_lower.specs.Productions.{production_of}
use Rattle.lp_lower.proofs.Made.{data_alike}
use Rattle.lp_lower.proofs.productions.rule_data.Goals as goal

pub returns : goal.returns
returns c =
    data_alike _ _ _ _ c.visibility_of.ensures
    (c.in_ok-productions.ensures
    ∙ ap (map (production_of c.args.rule.now.name)) (c.in_ok-expanded.ensures ∙ ap (expanded_all c.args.names.now.plain.now c.args.sources.now c.args.first) c.as_slice-alternatives.ensures))
