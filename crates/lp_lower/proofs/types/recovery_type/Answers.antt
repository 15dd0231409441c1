use Rattle.std.proofs.Common.{◌≡◌, [], ◌∷◌, ◌++◌, codes, ap, ◌∙◌}
use Rattle.lp_repr.specs.TypeTrees.{more, end, nominal_type, type_tree, types_trees}
use Rattle.lp_lower.specs.TypeOf.{path_of, location_tree, error_tree}
use Rattle.lp_lower.proofs.types.recovery_type.Goals as goal

pub returns : goal.returns
returns c =
    let g = c.args.plain.now in
    let crate_name = g.prefix ++ codes "lalrpop_util" in
    let names = crate_name ∷ codes "ErrorRecovery" ∷ [] in
    let ids : c.in_ok-ids.ids.items ≡ names = c.in_ok-ids.ensures.items ∙ (ap (λ t. t ∷ c.in_ok-type_name.type_name ∷ []) c.in_ok-crate_name.ensures ∙ ap (λ t. crate_name ∷ t ∷ []) c.in_ok-type_name.ensures) in
    let types : types_trees c.in_ok-types.types.items ≡ more (location_tree g) (more (type_tree g.token) (more (error_tree g) end)) =
    ap types_trees c.in_ok-types.ensures.items
    ∙ (ap (λ t. more t (more (type_tree c.in_ok-token.token) (more (type_tree c.in_ok-error.error) end))) c.in_ok-location.ensures
    ∙ (ap (λ t. more (location_tree g) (more t (more (type_tree c.in_ok-error.error) end))) c.in_ok-token.ensures.cases
    ∙ ap (λ t. more (location_tree g) (more (type_tree g.token) (more t end))) c.in_ok-error.ensures))
    in
    c.nominal.ensures ∙ (ap (λ l. nominal_type (path_of l) (types_trees c.in_ok-types.types.items)) ids ∙ ap (nominal_type (path_of names)) types)
