-- Types in a row with lifetimes: those of a list, and the types that have a row.
use Rattle.std.proofs.Common.{◌≡◌, ℕ, ◌+◌, List, [], ◌∷◌, map, refl, sym, ap, ◌∙◌, Option, Vec, Global}
use Rattle.std.specs.declared.boxed.Box.{Box}
use Rattle.lp_repr.specs.TypeTrees.{TypeTree, TypeTrees, tuple_type, nominal_type, object_type, function_type, more, trees_of, type_tree, types_trees, ret_trees}
use Rattle.lp_repr.specs.declared.parse_tree.TypeParameter.{TypeParameter}
use Rattle.lp_repr.specs.declared.parse_tree.Path.{Path}
use Rattle.lp_repr.specs.declared.repr.NominalTypeRepr.{NominalTypeRepr}
use Rattle.lp_repr.specs.declared.repr.TypeRepr.{TypeRepr, Tuple, Nominal, TraitObject, Fn}
use Rattle.lp_repr.proofs.TreeRows.{tuple_treed, nominal_treed, object_treed, fn_treed}
use Rattle.lp_parts.specs.Named.{named, named_in, named_of, unnamed, unnamed_in, unnamed_of}

pub named_list : (prefix : List ℕ) (n : ℕ) (ts : List TypeTree) → named_in prefix n (trees_of ts) ≡ trees_of (named_of prefix n ts)
named_list prefix n [] = refl
named_list prefix n (t ∷ ts) = ap (more (named prefix n t)) (named_list prefix (n + unnamed t) ts)

pub unnamed_list : (ts : List TypeTree) → unnamed_in (trees_of ts) ≡ unnamed_of ts
unnamed_list [] = refl
unnamed_list (t ∷ ts) = ap (λ (m : ℕ). unnamed t + m) (unnamed_list ts)

pub tuple_named :
    (prefix : List ℕ) (n : ℕ) (new old : Vec TypeRepr Global) →
    map type_tree new.items ≡ named_of prefix n (map type_tree old.items) →
    type_tree (Tuple new) ≡ named prefix n (type_tree (Tuple old))
tuple_named prefix n new old e =
    tuple_treed new
    ∙ (ap (λ (l : List TypeTree). tuple_type (trees_of l)) e
    ∙ (ap tuple_type (sym (named_list prefix n (map type_tree old.items)))
    ∙ ap (named prefix n) (sym (tuple_treed old))))

pub tuple_unnamed : (old : Vec TypeRepr Global) → unnamed_of (map type_tree old.items) ≡ unnamed (type_tree (Tuple old))
tuple_unnamed old = sym (unnamed_list (map type_tree old.items)) ∙ ap unnamed (sym (tuple_treed old))

pub nominal_named :
    (prefix : List ℕ) (n : ℕ) (new old : NominalTypeRepr) → new.path ≡ old.path →
    map type_tree new.types.items ≡ named_of prefix n (map type_tree old.types.items) →
    type_tree (Nominal new) ≡ named prefix n (type_tree (Nominal old))
nominal_named prefix n new old path e =
    nominal_treed new
    ∙ (ap (λ (q : Path). nominal_type q (types_trees new.types.items)) path
    ∙ (ap (λ (l : List TypeTree). nominal_type old.path (trees_of l)) e
    ∙ (ap (nominal_type old.path) (sym (named_list prefix n (map type_tree old.types.items)))
    ∙ ap (named prefix n) (sym (nominal_treed old)))))

pub nominal_unnamed : (old : NominalTypeRepr) → unnamed_of (map type_tree old.types.items) ≡ unnamed (type_tree (Nominal old))
nominal_unnamed old = sym (unnamed_list (map type_tree old.types.items)) ∙ ap unnamed (sym (nominal_treed old))

pub object_named :
    (prefix : List ℕ) (n : ℕ) (new old : NominalTypeRepr) → new.path ≡ old.path →
    map type_tree new.types.items ≡ named_of prefix n (map type_tree old.types.items) →
    type_tree (TraitObject new) ≡ named prefix n (type_tree (TraitObject old))
object_named prefix n new old path e =
    object_treed new
    ∙ (ap (λ (q : Path). object_type q (types_trees new.types.items)) path
    ∙ (ap (λ (l : List TypeTree). object_type old.path (trees_of l)) e
    ∙ (ap (object_type old.path) (sym (named_list prefix n (map type_tree old.types.items)))
    ∙ ap (named prefix n) (sym (object_treed old)))))

pub object_unnamed : (old : NominalTypeRepr) → unnamed_of (map type_tree old.types.items) ≡ unnamed (type_tree (TraitObject old))
object_unnamed old = sym (unnamed_list (map type_tree old.types.items)) ∙ ap unnamed (sym (object_treed old))

pub fn_named :
    (prefix : List ℕ) (n m : ℕ) (binder one : Vec TypeParameter Global) (path way : Path)
    (types old : Vec TypeRepr Global) (ret back : Option (Box TypeRepr Global)) →
    binder.items ≡ one.items → path ≡ way →
    map type_tree types.items ≡ named_of prefix n (map type_tree old.items) →
    m ≡ n + unnamed_of (map type_tree old.items) →
    ret_trees ret ≡ named_in prefix m (ret_trees back) →
    type_tree (Fn binder path types ret) ≡ named prefix n (type_tree (Fn one way old back))
fn_named prefix n m binder one path way types old ret back same_binder same_path trees after same_ret =
    let next : m ≡ n + unnamed_in (types_trees old.items) =
    after ∙ ap (λ (k : ℕ). n + k) (sym (unnamed_list (map type_tree old.items))) in
    fn_treed binder path types ret
    ∙ (ap (λ (l : List TypeParameter). function_type l path (types_trees types.items) (ret_trees ret)) same_binder
    ∙ (ap (λ (q : Path). function_type one.items q (types_trees types.items) (ret_trees ret)) same_path
    ∙ (ap (λ (l : List TypeTree). function_type one.items way (trees_of l) (ret_trees ret)) trees
    ∙ (ap (λ (t : TypeTrees). function_type one.items way t (ret_trees ret)) (sym (named_list prefix n (map type_tree old.items)))
    ∙ (ap (function_type one.items way (named_in prefix n (types_trees old.items))) (same_ret ∙ ap (λ (k : ℕ). named_in prefix k (ret_trees back)) next)
    ∙ ap (named prefix n) (sym (fn_treed one way old back)))))))

pub fn_unnamed :
    (one : Vec TypeParameter Global) (way : Path) (old : Vec TypeRepr Global) (back : Option (Box TypeRepr Global)) →
    unnamed_of (map type_tree old.items) + unnamed_in (ret_trees back) ≡ unnamed (type_tree (Fn one way old back))
fn_unnamed one way old back =
    ap (λ (k : ℕ). k + unnamed_in (ret_trees back)) (sym (unnamed_list (map type_tree old.items)))
    ∙ ap unnamed (sym (fn_treed one way old back))
