-- Equal types have the same parts.
use Rattle.std.proofs.Common.{◌≡◌, List, [], ◌∷◌, Bool, true, refl, sym, ap, ◌∙◌, ◌&&◌, Option, None, Some, String, Global, string_bytes, nat_eq, true≢false}
use Rattle.std.specs.Cmp.{booleans_Decides}
use Rattle.std.specs.Cmp.Lexicographic.{pointwise, pointwise_decides, bytes_decides}
use Rattle.std.proofs.lemmas.Bool.{and_parts}
use mathlib.Core.Bool.{beq}
use Rattle.std.specs.Option.{option_eq}
use denote.Hole.Carrier.{out}
use Rattle.lp_repr.specs.TypeOrder.{type_eq}
use Rattle.lp_repr.specs.TypeTrees.{name_of}
use Rattle.lp_repr.specs.SameTypes.{same_row, same_ret, SameParts, same_tuples, same_slices, same_nominals, same_objects, same_associated, same_lifetimes, same_references, same_functions}
use Rattle.lp_repr.specs.declared.repr.TypeRepr.{TypeRepr, Tuple', Slice', Nominal', Associated, TraitObject', Lifetime, Ref', Fn', Held-TypeRepr-Fn-3, None', Some', items_shown-the_row-TypeRepr-0}
use Rattle.lp_repr.specs.declared.repr.TypeRepr.TheBlock.{shown-the_row-TypeRepr-0, view-TypeRepr-Fn-3}
use Rattle.lp_repr.specs.declared.repr.TypeRepr.TheViews.{out-TypeRepr}
use Rattle.lp_repr.specs.declared.parse_tree.Path.{Path}
use Rattle.lp_repr.specs.declared.parse_tree.TypeParameter.{TypeParameter}
use Rattle.lp_repr.specs.declared.parse_tree.TypeParameter.TheVariants as parameter
use Rattle.lp_repr.specs.contracts.parse_tree.PathPartialEq.TheImpl as path_equality
use Rattle.lp_repr.specs.contracts.parse_tree.TypeParameterPartialEq.TheImpl as parameter_equality
use Rattle.lp_repr.specs.declared.repr.NominalTypeRepr.{NominalTypeRepr}
use Rattle.lp_repr.specs.contracts.repr.NominalTypeReprPartialEq.TheImpl as nominal_equality
use Rattle.lp_repr.specs.contracts.repr.NominalTypeReprPartialEq.TheImpl.Laws as nominal_law
use Rattle.lp_repr.specs.contracts.repr.TypeReprPartialEq.TheImpl.Laws as law

-- equal paths and binders are the same
same_path : (path other : Path) → path_equality.ghosts.eq path other ≡ true → path ≡ other
same_path path other e =
    let w = and_parts (beq path.absolute other.absolute) (pointwise (pointwise nat_eq) path.ids other.ids) e in
    let absolute = (booleans_Decides path.absolute other.absolute).0 w.0 in
    let ids = (pointwise_decides bytes_decides path.ids other.ids).0 w.1 in
    λ i. record { absolute = absolute i; ids = ids i }

same_parameter : (one other : TypeParameter) → parameter_equality.ghosts.eq one other ≡ true → one ≡ other
same_parameter (parameter.Lifetime one) (parameter.Lifetime other) e = ap parameter.Lifetime ((bytes_decides one other).0 e)
same_parameter (parameter.Lifetime one) (parameter.Id other) e = absurd (true≢false (sym e))
same_parameter (parameter.Id one) (parameter.Lifetime other) e = absurd (true≢false (sym e))
same_parameter (parameter.Id one) (parameter.Id other) e = ap parameter.Id ((bytes_decides one other).0 e)

same_binder : (one other : List TypeParameter) → pointwise parameter_equality.ghosts.eq one other ≡ true → one ≡ other
same_binder [] [] e = refl
same_binder [] (o ∷ os) e = absurd (true≢false (sym e))
same_binder (t ∷ ts) [] e = absurd (true≢false (sym e))
same_binder (t ∷ ts) (o ∷ os) e =
    let w = and_parts (parameter_equality.ghosts.eq t o) (pointwise parameter_equality.ghosts.eq ts os) e in
    let head = same_parameter t o w.0 in
    let tail = same_binder ts os w.1 in
    λ i. head i ∷ tail i

-- equal names have the same bytes
abbrev same_bytes : String Global → String Global → Bool
same_bytes s t = pointwise nat_eq (string_bytes s) (string_bytes t)

same_lifetime : (one other : Option (String Global)) → option_eq same_bytes one other ≡ true → name_of one ≡ name_of other
same_lifetime None None e = refl
same_lifetime None (Some other) e = absurd (true≢false (sym e))
same_lifetime (Some one) None e = absurd (true≢false (sym e))
same_lifetime (Some one) (Some other) e = ap (λ l. Some l) ((bytes_decides _ _).0 e)

-- of a path with its arguments
nominal_parts : (n m : NominalTypeRepr) → nominal_equality.ghosts.eq n m ≡ true → (n.path ≡ m.path) × (pointwise type_eq n.types.items m.types.items ≡ true)
nominal_parts n m e =
    let w = and_parts (path_equality.ghosts.eq n.path m.path) (pointwise type_eq n.types.items m.types.items) (sym (nominal_law.is n m) ∙ e) in
    (same_path n.path m.path w.0, w.1)

-- rows and results as the equality reads them
same_rows : (s x t y : _) → pointwise type_eq (shown-the_row-TypeRepr-0 s x).items (shown-the_row-TypeRepr-0 t y).items ≡ true → same_row x y ≡ true
same_rows s x t y e = sym (λ i. pointwise type_eq (items_shown-the_row-TypeRepr-0 s x i) (items_shown-the_row-TypeRepr-0 t y i)) ∙ e

same_rets : (ret other : Held-TypeRepr-Fn-3) → option_eq (λ a b. type_eq a.value b.value) (view-TypeRepr-Fn-3 ret) (view-TypeRepr-Fn-3 other) ≡ true → same_ret ret other ≡ true
same_rets None' None' e = e
same_rets None' (Some' q other) e = e
same_rets (Some' p ty) None' e = e
same_rets (Some' p ty) (Some' q other) e = e

parts : (a b : TypeRepr) → law.unfolded a b ≡ true → SameParts a b
unfolding out-TypeRepr out
parts (Tuple' s x) (Tuple' t y) e = same_tuples (same_rows s x t y e)
parts (Slice' p x) (Slice' q y) e = same_slices e
parts (Nominal' h s x) (Nominal' k t y) e = let w = nominal_parts _ _ e in same_nominals w.0 (same_rows s x t y w.1)
parts (TraitObject' h s x) (TraitObject' k t y) e = let w = nominal_parts _ _ e in same_objects w.0 (same_rows s x t y w.1)
parts (Associated n i) (Associated m j) e =
    let w = and_parts (same_bytes n m) (same_bytes i j) e in
    same_associated ((bytes_decides _ _).0 w.0) ((bytes_decides _ _).0 w.1)
parts (Lifetime n) (Lifetime m) e = same_lifetimes ((bytes_decides _ _).0 e)
parts (Ref' l m p x) (Ref' k n q y) e =
    let w = and_parts (option_eq same_bytes l k) (beq m n && type_eq x y) e in
    let v = and_parts (beq m n) (type_eq x y) w.1 in
    same_references (same_lifetime l k w.0) ((booleans_Decides m n).0 v.0) v.1
parts (Fn' b h s x r) (Fn' c k t y z) e =
    let rows = pointwise type_eq (shown-the_row-TypeRepr-0 s x).items (shown-the_row-TypeRepr-0 t y).items in
    let rets = option_eq (λ a b. type_eq a.value b.value) (view-TypeRepr-Fn-3 r) (view-TypeRepr-Fn-3 z) in
    let w = and_parts (pointwise parameter_equality.ghosts.eq b.items c.items) (path_equality.ghosts.eq h k && (rows && rets)) e in
    let v = and_parts (path_equality.ghosts.eq h k) (rows && rets) w.1 in
    let u = and_parts rows rets v.1 in
    same_functions (same_binder b.items c.items w.0) (same_path h k v.0) (same_rows s x t y u.0) (same_rets r z u.1)
parts a b e = absurd (true≢false (sym e))

-- equal types have the same parts
pub same_parts : (a b : TypeRepr) → type_eq a b ≡ true → SameParts a b
same_parts a b e = parts a b (sym (law.is a b) ∙ e)
