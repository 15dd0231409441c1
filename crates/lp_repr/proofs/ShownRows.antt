-- The texts of the rows of types.
use Rattle.std.proofs.Common.{◌≡◌, ℕ, List, [], ◌∷◌, ◌++◌, length, map, ◌==◌, if◌then◌else◌, codes, refl, ap, ◌∙◌, Option, None, Some, Vec, Global}
use Rattle.std.proofs.lemmas.List.{length-map}
use Rattle.std.specs.declared.boxed.Box.{Box}
use Rattle.std.specs.List.{flat_map, join_by}
use mathlib.Core.Former.{Count}
use Rattle.lp_repr.specs.Shown.{path_text}
use Rattle.lp_repr.specs.ShownTypes.{tuple_text, parameters_text, ret_text, arguments_text, fn_head_text, type_text, row_texts, nominal_text}
use Rattle.lp_repr.specs.declared.parse_tree.TypeParameter.{TypeParameter}
use Rattle.lp_repr.specs.declared.parse_tree.Path.{Path}
use Rattle.lp_repr.specs.declared.repr.NominalTypeRepr.{NominalTypeRepr}
use Rattle.lp_repr.specs.declared.repr.TypeRepr.{TypeRepr, Tuple, Tuple', Nominal, Nominal', TraitObject, TraitObject', Fn, Fn', Row_of-TypeRepr, end_of-TypeRepr, more_of-TypeRepr, items-the_row-TypeRepr, items_hidden-the_row-TypeRepr-0}

-- texts of the elements, and of their texts
flat_map_texts : {X : Type 0} (f : X → List ℕ) (sep : List ℕ) (xs : List X) → flat_map (λ t. sep ++ t) (map f xs) ≡ flat_map (λ x. sep ++ f x) xs
flat_map_texts f sep [] = refl
flat_map_texts f sep (x ∷ xs) = ap (λ l. (sep ++ f x) ++ l) (flat_map_texts f sep xs)

join_texts : {X : Type 0} (f : X → List ℕ) (sep : List ℕ) (xs : List X) → join_by (λ t. t) sep (map f xs) ≡ join_by f sep xs
join_texts f sep [] = refl
join_texts f sep (x ∷ xs) = ap (λ l. f x ++ l) (flat_map_texts f sep xs)

-- brackets around them
tuple_texts : {X : Type 0} (f : X → List ℕ) (xs : List X) → tuple_text (λ t. t) (map f xs) ≡ tuple_text f xs
tuple_texts f xs =
    ap (λ l. codes "(" ++ (l ++ (if length (map f xs) == 1 then codes ",)" else codes ")"))) (join_texts f (codes ", ") xs)
    ∙ ap (λ n. codes "(" ++ (join_by f (codes ", ") xs ++ (if n == 1 then codes ",)" else codes ")"))) (length-map xs f)

parameters_texts : {X : Type 0} (f : X → List ℕ) (xs : List X) → parameters_text (λ t. t) (map f xs) ≡ parameters_text f xs
parameters_texts f xs = ap (λ l. codes "(" ++ (l ++ codes ")")) (join_texts f (codes ", ") xs)

arguments_texts : {X : Type 0} (f : X → List ℕ) (xs : List X) → arguments_text (λ t. t) (map f xs) ≡ arguments_text f xs
arguments_texts f [] = refl
arguments_texts f (x ∷ xs) = ap (λ l. codes "<" ++ (l ++ codes ">")) (join_texts f (codes ", ") (x ∷ xs))

-- the texts of a row
row_shown : (n : _) (row : Row_of-TypeRepr n) → row_texts row ≡ map type_text (items-the_row-TypeRepr n row)
row_shown _ end_of-TypeRepr = refl
row_shown _ (more_of-TypeRepr ty rest) = ap (λ l. type_text ty ∷ l) (row_shown _ rest)

abbrev row_of : TypeRepr → (n : Count) × Row_of-TypeRepr n
row_of (Tuple' shape row) = (_, row)
row_of (Nominal' path shape row) = (_, row)
row_of (TraitObject' path shape row) = (_, row)
row_of (Fn' binder path shape row ret) = (_, row)
row_of _ = (_, end_of-TypeRepr)

pub tuple_shown : (types : Vec TypeRepr Global) → type_text (Tuple types) ≡ tuple_text type_text types.items
tuple_shown types =
    let row = row_of (Tuple types) in
    ap (tuple_text (λ t. t)) (row_shown row.0 row.1 ∙ ap (map type_text) (items_hidden-the_row-TypeRepr-0 types)) ∙ tuple_texts type_text types.items

pub nominal_shown : (n : NominalTypeRepr) → type_text (Nominal n) ≡ nominal_text n
nominal_shown n =
    let row = row_of (Nominal n) in
    ap (λ l. path_text n.path ++ l) (ap (arguments_text (λ t. t)) (row_shown row.0 row.1 ∙ ap (map type_text) (items_hidden-the_row-TypeRepr-0 n.types)) ∙ arguments_texts type_text n.types.items)

pub object_shown : (n : NominalTypeRepr) → type_text (TraitObject n) ≡ codes "dyn " ++ nominal_text n
object_shown n =
    let row = row_of (TraitObject n) in
    ap (λ l. codes "dyn " ++ (path_text n.path ++ l)) (ap (arguments_text (λ t. t)) (row_shown row.0 row.1 ∙ ap (map type_text) (items_hidden-the_row-TypeRepr-0 n.types)) ∙ arguments_texts type_text n.types.items)

pub fn_shown : (binder : Vec TypeParameter Global) (path : Path) (types : Vec TypeRepr Global) (ret : Option (Box TypeRepr Global)) → type_text (Fn binder path types ret) ≡ fn_head_text binder.items path ++ (parameters_text type_text types.items ++ ret_text (λ b. type_text b.value) ret)
fn_shown binder path types None =
    let row = row_of (Fn binder path types None) in
    ap (λ l. fn_head_text binder.items path ++ (l ++ [])) (ap (parameters_text (λ t. t)) (row_shown row.0 row.1 ∙ ap (map type_text) (items_hidden-the_row-TypeRepr-0 types)) ∙ parameters_texts type_text types.items)
fn_shown binder path types (Some b) =
    let row = row_of (Fn binder path types (Some b)) in
    ap (λ l. fn_head_text binder.items path ++ (l ++ (codes " -> " ++ type_text b.value))) (ap (parameters_text (λ t. t)) (row_shown row.0 row.1 ∙ ap (map type_text) (items_hidden-the_row-TypeRepr-0 types)) ∙ parameters_texts type_text types.items)
