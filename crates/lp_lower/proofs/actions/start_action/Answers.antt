use Rattle.std.proofs.Common.{false, [], ◌∷◌, map, ap, ◌∙◌}
use Rattle.lp_repr.specs.TypeTrees.{type_tree}
use Rattle.lp_lower.proofs.ActionTrees.{user_alike}
use Rattle.lp_lower.proofs.actions.start_action.Goals as goal

pub returns : goal.returns
returns c =
    user_alike false _ _ _ _ _ _ _ _ c.in_ok-ret_type.ensures.cases
    (c.in_ok-patterns.ensures.items ∙ ap (λ n. n ∷ []) c.in_ok-name.ensures)
    (ap (map type_tree) c.in_ok-types.ensures.items ∙ ap (λ t. t ∷ []) c.in_ok-ty.ensures.cases)
    c.in_ok-code.ensures
