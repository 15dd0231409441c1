-- The referents of a type, from those of its parts.
use Rattle.std.proofs.Common.{◌≡◌, List, [], ◌∷◌, ◌++◌, refl, ap, ◌∙◌, Option, None, Some, Vec, Global}
use Rattle.std.specs.declared.boxed.Box.{Box}
use Rattle.std.specs.List.{flat_map}
use mathlib.Core.Former.{Count}
use Rattle.lp_repr.specs.declared.parse_tree.TypeParameter.{TypeParameter}
use Rattle.lp_repr.specs.declared.parse_tree.Path.{Path}
use Rattle.lp_repr.specs.declared.repr.NominalTypeRepr.{NominalTypeRepr}
use Rattle.lp_repr.specs.declared.repr.TypeRepr.{TypeRepr, Tuple, Tuple', Nominal, Nominal', TraitObject, TraitObject', Fn, Fn', Row_of-TypeRepr, end_of-TypeRepr, more_of-TypeRepr, items-the_row-TypeRepr, items_hidden-the_row-TypeRepr-0}
use Rattle.lp_parts.specs.MachineParameters.{referents, row_referents, ret_referents}

pub row_referred : (n : _) (row : Row_of-TypeRepr n) → row_referents row ≡ flat_map referents (items-the_row-TypeRepr n row)
row_referred _ end_of-TypeRepr = refl
row_referred _ (more_of-TypeRepr ty rest) = ap (λ l. referents ty ++ l) (row_referred _ rest)

abbrev row_of : TypeRepr → (n : Count) × Row_of-TypeRepr n
row_of (Tuple' shape row) = (_, row)
row_of (Nominal' path shape row) = (_, row)
row_of (TraitObject' path shape row) = (_, row)
row_of (Fn' binder path shape row ret) = (_, row)
row_of _ = (_, end_of-TypeRepr)

pub tuple_referents : (types : Vec TypeRepr Global) → referents (Tuple types) ≡ flat_map referents types.items
tuple_referents types =
    let row = row_of (Tuple types) in
    row_referred row.0 row.1 ∙ ap (flat_map referents) (items_hidden-the_row-TypeRepr-0 types)

pub nominal_referents : (n : NominalTypeRepr) → referents (Nominal n) ≡ flat_map referents n.types.items
nominal_referents n =
    let row = row_of (Nominal n) in
    row_referred row.0 row.1 ∙ ap (flat_map referents) (items_hidden-the_row-TypeRepr-0 n.types)

pub object_referents : (n : NominalTypeRepr) → referents (TraitObject n) ≡ flat_map referents n.types.items
object_referents n =
    let row = row_of (TraitObject n) in
    row_referred row.0 row.1 ∙ ap (flat_map referents) (items_hidden-the_row-TypeRepr-0 n.types)

pub fn_referents :
    (binder : Vec TypeParameter Global) (path : Path) (types : Vec TypeRepr Global) (ret : Option (Box TypeRepr Global)) →
    referents (Fn binder path types ret) ≡ flat_map referents types.items ++ ret_referents ret
fn_referents binder path types None =
    let row = row_of (Fn binder path types None) in
    ap (λ l. l ++ []) (row_referred row.0 row.1 ∙ ap (flat_map referents) (items_hidden-the_row-TypeRepr-0 types))
fn_referents binder path types (Some b) =
    let row = row_of (Fn binder path types (Some b)) in
    ap (λ l. l ++ referents b.value) (row_referred row.0 row.1 ∙ ap (flat_map referents) (items_hidden-the_row-TypeRepr-0 types))
