use Rattle.std.proofs.Common.{sym, ap, ◌∙◌}
use Rattle.std.specs.Option.{option_map_or}
use Rattle.lp_repr.specs.TypeTrees.{tuple_type, type_tree, types_trees, end}
use Rattle.lp_repr.proofs.TreeRows.{tuple_treed}
use Rattle.lp_lower.proofs.types.location_type.Goals as goal

pub returns-in_ok-clone-in-Some : goal.returns-in_ok-clone-in-Some
returns-in_ok-clone-in-Some c = c.in_ok-clone-in-Some.ensures.cases ∙ ap (λ o. option_map_or type_tree o (tuple_type end)) (sym c.in-Some.is)

pub returns-in-None : goal.returns-in-None
returns-in-None c = tuple_treed c.new.result ∙ (ap (λ l. tuple_type (types_trees l)) c.new.ensures.items ∙ ap (λ o. option_map_or type_tree o (tuple_type end)) (sym c.in-None.is))
