-- The tree of a type, from those of its parts.
use Rattle.std.proofs.Common.{◌≡◌, List, [], ◌∷◌, map, refl, ap, ◌∙◌, Option, None, Some, Vec, Global}
use Rattle.std.specs.declared.boxed.Box.{Box}
use mathlib.Core.Former.{Count}
use Rattle.lp_repr.specs.TypeTrees.{TypeTree, TypeTrees, tuple_type, nominal_type, object_type, function_type, end, more, trees_of, type_tree, row_trees, types_trees, ret_trees, nominal_tree}
use Rattle.lp_repr.specs.declared.parse_tree.TypeParameter.{TypeParameter}
use Rattle.lp_repr.specs.declared.parse_tree.Path.{Path}
use Rattle.lp_repr.specs.declared.repr.NominalTypeRepr.{NominalTypeRepr}
use Rattle.lp_repr.specs.declared.repr.TypeRepr.{TypeRepr, Tuple, Tuple', Nominal, Nominal', TraitObject, TraitObject', Fn, Fn', Row_of-TypeRepr, end_of-TypeRepr, more_of-TypeRepr, items-the_row-TypeRepr, items_hidden-the_row-TypeRepr-0}

row_treed : (n : _) (row : Row_of-TypeRepr n) → row_trees row ≡ types_trees (items-the_row-TypeRepr n row)
row_treed _ end_of-TypeRepr = refl
row_treed _ (more_of-TypeRepr ty rest) = ap (more (type_tree ty)) (row_treed _ rest)

abbrev row_of : TypeRepr → (n : Count) × Row_of-TypeRepr n
row_of (Tuple' shape row) = (_, row)
row_of (Nominal' path shape row) = (_, row)
row_of (TraitObject' path shape row) = (_, row)
row_of (Fn' binder path shape row ret) = (_, row)
row_of _ = (_, end_of-TypeRepr)

pub tuple_treed : (types : Vec TypeRepr Global) → type_tree (Tuple types) ≡ tuple_type (types_trees types.items)
tuple_treed types =
    let row = row_of (Tuple types) in
    ap tuple_type (row_treed row.0 row.1 ∙ ap types_trees (items_hidden-the_row-TypeRepr-0 types))

pub nominal_treed : (n : NominalTypeRepr) → type_tree (Nominal n) ≡ nominal_tree n
nominal_treed n =
    let row = row_of (Nominal n) in
    ap (nominal_type n.path) (row_treed row.0 row.1 ∙ ap types_trees (items_hidden-the_row-TypeRepr-0 n.types))

pub object_treed : (n : NominalTypeRepr) → type_tree (TraitObject n) ≡ object_type n.path (types_trees n.types.items)
object_treed n =
    let row = row_of (TraitObject n) in
    ap (object_type n.path) (row_treed row.0 row.1 ∙ ap types_trees (items_hidden-the_row-TypeRepr-0 n.types))

pub fn_treed : (binder : Vec TypeParameter Global) (path : Path) (types : Vec TypeRepr Global) (ret : Option (Box TypeRepr Global)) → type_tree (Fn binder path types ret) ≡ function_type binder.items path (types_trees types.items) (ret_trees ret)
fn_treed binder path types None =
    let row = row_of (Fn binder path types None) in
    ap (λ l. function_type binder.items path l end) (row_treed row.0 row.1 ∙ ap types_trees (items_hidden-the_row-TypeRepr-0 types))
fn_treed binder path types (Some b) =
    let row = row_of (Fn binder path types (Some b)) in
    ap (λ l. function_type binder.items path l (more (type_tree b.value) end)) (row_treed row.0 row.1 ∙ ap types_trees (items_hidden-the_row-TypeRepr-0 types))
