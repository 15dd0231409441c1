use Rattle.std.proofs.Common.{sym, ap, ◌∙◌}
use Rattle.std.specs.Option.{option_map_or}
use Rattle.lp_repr.specs.TypeTrees.{type_tree}
use Rattle.lp_lower.specs.TypeOf.{static_str_tree}
use Rattle.lp_lower.proofs.types.error_type.Goals as goal

pub returns-in_ok-clone-in-Some : goal.returns-in_ok-clone-in-Some
returns-in_ok-clone-in-Some c = c.in_ok-clone-in-Some.ensures.cases ∙ ap (λ o. option_map_or type_tree o static_str_tree) (sym c.in-Some.is)

pub returns-in_ok-static_str-in-None : goal.returns-in_ok-static_str-in-None
returns-in_ok-static_str-in-None c = c.in_ok-static_str-in-None.ensures ∙ ap (λ o. option_map_or type_tree o static_str_tree) (sym c.in-None.is)
