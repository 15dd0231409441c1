use Rattle.std.proofs.Common.{◌≡◌, Some, false, [], ◌∷◌, codes, ap, ◌∙◌}
use Rattle.lp_repr.specs.TypeTrees.{nominal_type, reference_type, type_tree, types_trees}
use Rattle.lp_lower.specs.TypeOf.{path_of}
use Rattle.lp_lower.proofs.types.static_str.Goals as goal

pub returns : goal.returns
returns c =
    let types = c.new-types.result.items in
    let referent = c.in_ok-referent.referent in
    let ids : c.in_ok-ids.ids.items ≡ codes "str" ∷ [] = c.in_ok-ids.ensures.items ∙ ap (λ t. t ∷ []) c.in_ok-name.ensures in
    ap (λ t. reference_type (Some t) false (type_tree referent.value)) c.in_ok-lifetime.ensures.ok
    ∙ ap (reference_type (Some (codes "'static")) false)
    (ap type_tree c.in_ok-referent.ensures.ok
    ∙ (c.nominal-str_type.ensures
    ∙ (ap (λ l. nominal_type (path_of l) (types_trees types)) ids ∙ ap (λ l. nominal_type (path_of (codes "str" ∷ [])) (types_trees l)) c.new-types.ensures.items)))
