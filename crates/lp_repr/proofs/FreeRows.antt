-- The free variables of a type, from those of its parts.
use Rattle.std.proofs.Common.{◌≡◌, List, [], ◌∷◌, ◌++◌, refl, ap, ◌∙◌, Option, None, Some, Vec, Global}
use Rattle.std.specs.declared.boxed.Box.{Box}
use Rattle.std.specs.List.{flat_map}
use mathlib.Core.Former.{Count}
use Rattle.lp_repr.specs.FreeVariables.{free_in_type, free_in_row, free_in_ret, free_in_path, free_in_option, unbound}
use Rattle.lp_repr.specs.declared.parse_tree.TypeParameter.{TypeParameter}
use Rattle.lp_repr.specs.declared.parse_tree.Path.{Path}
use Rattle.lp_repr.specs.declared.repr.NominalTypeRepr.{NominalTypeRepr}
use Rattle.lp_repr.specs.declared.repr.TypeRepr.{TypeRepr, Tuple, Tuple', Nominal, Nominal', TraitObject, TraitObject', Fn, Fn', Row_of-TypeRepr, end_of-TypeRepr, more_of-TypeRepr, items-the_row-TypeRepr, items_hidden-the_row-TypeRepr-0}

pub row_free : (declared : List TypeParameter) (n : _) (row : Row_of-TypeRepr n) → free_in_row declared row ≡ flat_map (free_in_type declared) (items-the_row-TypeRepr n row)
row_free declared _ end_of-TypeRepr = refl
row_free declared _ (more_of-TypeRepr ty rest) = ap (λ l. free_in_type declared ty ++ l) (row_free declared _ rest)

abbrev row_of : TypeRepr → (n : Count) × Row_of-TypeRepr n
row_of (Tuple' shape row) = (_, row)
row_of (Nominal' path shape row) = (_, row)
row_of (TraitObject' path shape row) = (_, row)
row_of (Fn' binder path shape row ret) = (_, row)
row_of _ = (_, end_of-TypeRepr)

pub tuple_free : (declared : List TypeParameter) (types : Vec TypeRepr Global) → free_in_type declared (Tuple types) ≡ flat_map (free_in_type declared) types.items
tuple_free declared types =
    let row = row_of (Tuple types) in
    row_free declared row.0 row.1 ∙ ap (flat_map (free_in_type declared)) (items_hidden-the_row-TypeRepr-0 types)

pub nominal_free : (declared : List TypeParameter) (n : NominalTypeRepr) → free_in_type declared (Nominal n) ≡ free_in_path declared n.path ++ flat_map (free_in_type declared) n.types.items
nominal_free declared n =
    let row = row_of (Nominal n) in
    ap (λ l. free_in_path declared n.path ++ l) (row_free declared row.0 row.1 ∙ ap (flat_map (free_in_type declared)) (items_hidden-the_row-TypeRepr-0 n.types))

pub object_free : (declared : List TypeParameter) (n : NominalTypeRepr) → free_in_type declared (TraitObject n) ≡ free_in_path declared n.path ++ flat_map (free_in_type declared) n.types.items
object_free declared n =
    let row = row_of (TraitObject n) in
    ap (λ l. free_in_path declared n.path ++ l) (row_free declared row.0 row.1 ∙ ap (flat_map (free_in_type declared)) (items_hidden-the_row-TypeRepr-0 n.types))

pub fn_free : (declared : List TypeParameter) (binder : Vec TypeParameter Global) (path : Path) (types : Vec TypeRepr Global) (ret : Option (Box TypeRepr Global)) → free_in_type declared (Fn binder path types ret) ≡ unbound binder.items ((free_in_path declared path ++ flat_map (free_in_type declared) types.items) ++ free_in_option (λ b. free_in_type declared b.value) ret)
fn_free declared binder path types None =
    let row = row_of (Fn binder path types None) in
    ap (λ l. unbound binder.items ((free_in_path declared path ++ l) ++ [])) (row_free declared row.0 row.1 ∙ ap (flat_map (free_in_type declared)) (items_hidden-the_row-TypeRepr-0 types))
fn_free declared binder path types (Some b) =
    let row = row_of (Fn binder path types (Some b)) in
    ap (λ l. unbound binder.items ((free_in_path declared path ++ l) ++ free_in_type declared b.value)) (row_free declared row.0 row.1 ∙ ap (flat_map (free_in_type declared)) (items_hidden-the_row-TypeRepr-0 types))
