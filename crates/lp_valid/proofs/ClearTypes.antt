-- Whether a type holds the prefix, from its parts; and the texts that hold it.
use Rattle.std.proofs.Common.{◌≡◌, ℕ, Bool, true, false, ◌&&◌, ◌||◌, List, [], ◌∷◌, ◌++◌, codes, length, drop, refl, sym, ap, ◌∙◌, Option, None, Some, Vec, Global, nat_eq, ⊎_elim}
use Rattle.std.specs.Bool.{MatchBool}
use Rattle.std.specs.List.{list_all, starts_with}
use Rattle.std.specs.Str.Iter.{HasSubslice}
use Rattle.std.specs.Str.Pattern.{HasMatch, FindsText}
use Rattle.std.specs.declared.boxed.Box.{Box}
use Rattle.std.proofs.lemmas.Bool.{or_cases}
use Rattle.std.proofs.Math.Bool.{or-true}
use Rattle.std.proofs.lemmas.Bool.Decides.{Decides-eqb}
use Rattle.std.proofs.lemmas.Slice.Eq.{starts_is}
use Rattle.std.proofs.lemmas.Str.Pattern.{contains_text}
use mathlib.Core.Former.{Count}
use Rattle.lp_repr.specs.declared.parse_tree.TypeParameter.{TypeParameter}
use Rattle.lp_repr.specs.declared.parse_tree.Path.{Path}
use Rattle.lp_repr.specs.declared.repr.NominalTypeRepr.{NominalTypeRepr}
use Rattle.lp_repr.specs.declared.repr.TypeRepr.{TypeRepr, Tuple, Tuple', Nominal, Nominal', TraitObject, TraitObject', Fn, Fn', Row_of-TypeRepr, end_of-TypeRepr, more_of-TypeRepr, items-the_row-TypeRepr, items_hidden-the_row-TypeRepr-0}
use Rattle.lp_repr.specs.declared.repr.Types.{Types}
use Rattle.lp_valid.specs.PrefixParts.{is_clear_nominal, is_clear_ret_type}
use Rattle.lp_valid.specs.PrefixRules.{holds_prefix, lacks, is_error_type, is_clear, is_clear_row, is_clear_head}

clear_row : (prefix : List ℕ) (types : Types) (n : _) (row : Row_of-TypeRepr n) → is_clear_row prefix types row ≡ list_all (is_clear prefix types) (items-the_row-TypeRepr n row)
clear_row prefix types _ end_of-TypeRepr = refl
clear_row prefix types _ (more_of-TypeRepr ty rest) = ap (λ b. is_clear prefix types ty && b) (clear_row prefix types _ rest)

abbrev row_of : TypeRepr → (n : Count) × Row_of-TypeRepr n
row_of (Tuple' shape row) = (_, row)
row_of (Nominal' path shape row) = (_, row)
row_of (TraitObject' path shape row) = (_, row)
row_of (Fn' binder path shape row ret) = (_, row)
row_of _ = (_, end_of-TypeRepr)

pub tuple_clear : (prefix : List ℕ) (types : Types) (parts : Vec TypeRepr Global) → is_clear prefix types (Tuple parts) ≡ list_all (is_clear prefix types) parts.items
tuple_clear prefix types parts =
    let row = row_of (Tuple parts) in
    clear_row prefix types row.0 row.1 ∙ ap (list_all (is_clear prefix types)) (items_hidden-the_row-TypeRepr-0 parts)

pub nominal_clear : (prefix : List ℕ) (types : Types) (n : NominalTypeRepr) → is_clear prefix types (Nominal n) ≡ (is_error_type prefix types n.path n.types.items || is_clear_nominal prefix types n)
nominal_clear prefix types n =
    let row = row_of (Nominal n) in
    ap (λ b. is_error_type prefix types n.path (items-the_row-TypeRepr row.0 row.1) || (list_all (lacks prefix) n.path.ids && b)) (clear_row prefix types row.0 row.1)
    ∙ ap (λ l. is_error_type prefix types n.path l || (list_all (lacks prefix) n.path.ids && list_all (is_clear prefix types) l)) (items_hidden-the_row-TypeRepr-0 n.types)

pub object_clear : (prefix : List ℕ) (types : Types) (n : NominalTypeRepr) → is_clear prefix types (TraitObject n) ≡ (lacks prefix (codes "dyn") && is_clear_nominal prefix types n)
object_clear prefix types n =
    let row = row_of (TraitObject n) in
    ap (λ b. lacks prefix (codes "dyn") && (list_all (lacks prefix) n.path.ids && b)) (clear_row prefix types row.0 row.1 ∙ ap (list_all (is_clear prefix types)) (items_hidden-the_row-TypeRepr-0 n.types))

pub fn_clear : (prefix : List ℕ) (types : Types) (binder : Vec TypeParameter Global) (path : Path) (parts : Vec TypeRepr Global) (ret : Option (Box TypeRepr Global)) → is_clear prefix types (Fn binder path parts ret) ≡ (is_clear_head prefix binder.items path && (list_all (is_clear prefix types) parts.items && is_clear_ret_type prefix types ret))
fn_clear prefix types binder path parts None =
    let row = row_of (Fn binder path parts None) in
    ap (λ b. is_clear_head prefix binder.items path && (b && true)) (clear_row prefix types row.0 row.1 ∙ ap (list_all (is_clear prefix types)) (items_hidden-the_row-TypeRepr-0 parts))
fn_clear prefix types binder path parts (Some r) =
    let row = row_of (Fn binder path parts (Some r)) in
    ap (λ b. is_clear_head prefix binder.items path && (b && is_clear prefix types r.value)) (clear_row prefix types row.0 row.1 ∙ ap (list_all (is_clear prefix types)) (items_hidden-the_row-TypeRepr-0 parts))

-- a function, once its binder and path are clear and it is known whether its parameters are
pub fn_known : (prefix : List ℕ) (types : Types) (binder : Vec TypeParameter Global) (path : Path) (parts : Vec TypeRepr Global) (ret : Option (Box TypeRepr Global)) (b : Bool) → is_clear_head prefix binder.items path ≡ true → list_all (is_clear prefix types) parts.items ≡ b → (b && is_clear_ret_type prefix types ret) ≡ is_clear prefix types (Fn binder path parts ret)
fn_known prefix types binder path parts ret b head known =
    sym (fn_clear prefix types binder path parts ret
    ∙ (ap (λ (h : Bool). h && (list_all (is_clear prefix types) parts.items && is_clear_ret_type prefix types ret)) head ∙ ap (λ (k : Bool). k && is_clear_ret_type prefix types ret) known))

-- a text that begins with the prefix holds it
front_holds : (p s : List ℕ) → starts_with nat_eq s p ≡ true → holds_prefix p s ≡ true
front_holds p [] h = h
front_holds p (c ∷ cs) h = ap (λ b. b || holds_prefix p cs) h

inner_holds : (p a b : List ℕ) → holds_prefix p (a ++ (p ++ b)) ≡ true
inner_holds p [] b = front_holds p (p ++ b) ((starts_is Decides-eqb (p ++ b) p (starts_with nat_eq (p ++ b) p) refl).1 b refl)
inner_holds p (c ∷ a) b = ap (λ h. starts_with nat_eq (c ∷ (a ++ (p ++ b))) p || h) (inner_holds p a b) ∙ or-true _

holds_inner : (p s : List ℕ) → holds_prefix p s ≡ true → HasSubslice s p
holds_inner p [] h = ([], drop (length p) [], (starts_is Decides-eqb [] p (starts_with nat_eq [] p) refl).0 h)
holds_inner p (c ∷ cs) h =
    ⊎_elim (λ front. ([], drop (length p) (c ∷ cs), (starts_is Decides-eqb (c ∷ cs) p (starts_with nat_eq (c ∷ cs) p) refl).0 front))
    (λ rest. let inner = holds_inner p cs rest in (c ∷ inner.0, inner.1, ap (λ l. c ∷ l) inner.2)) (or_cases (starts_with nat_eq (c ∷ cs) p) (holds_prefix p cs) h)

both_true : (a b : Bool) → (a ≡ true → b ≡ true) → (b ≡ true → a ≡ true) → a ≡ b
both_true true b to back = sym (to refl)
both_true false true to back = back refl
both_true false false to back = refl

pub holds_from_contains : (r : Bool) (p s : List ℕ) → MatchBool r (HasMatch (FindsText p) s) (FindsText p s None) → r ≡ holds_prefix p s
holds_from_contains r p s m =
    let same = contains_text r p s m in
    both_true r (holds_prefix p s) (λ yes. let inner = same.0 yes in ap (holds_prefix p) inner.2 ∙ inner_holds p inner.0 inner.1) (λ yes. same.1 (holds_inner p s yes))
