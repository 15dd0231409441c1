-- What a type is shown as depends on its tree alone.
use Rattle.std.proofs.Common.{◌≡◌, ℕ, List, [], ◌∷◌, ◌++◌, Bool, map, codes, refl, sym, ap, ◌∙◌, Option, None, Some, String, Global, string_bytes, if◌then◌else◌}
use Rattle.lp_repr.specs.Shown.{path_text}
use Rattle.lp_repr.specs.ShownTypes.{tuple_text, parameters_text, arguments_text, reference_text, fn_head_text, type_text, row_texts, held_text}
use Rattle.lp_repr.specs.TypeTrees.{TypeTree, TypeTrees, tuple_type, slice_type, nominal_type, associated_type, object_type, lifetime_type, reference_type, function_type, end, more, type_tree, row_trees, held_trees, name_of}
use Rattle.lp_repr.specs.declared.repr.TypeRepr.{TypeRepr, Tuple', Slice', Nominal', Associated, TraitObject', Lifetime, Ref', Fn', Row_of-TypeRepr, end_of-TypeRepr, more_of-TypeRepr, Held-TypeRepr-Fn-3, None', Some'}

-- what stands before the type that a reference leads to
abbrev lifetime_text : Option (List ℕ) → Bool → List ℕ
lifetime_text None mutable = codes "&" ++ (if mutable then codes "mut " else [])
lifetime_text (Some name) mutable = codes "&" ++ (name ++ (codes " " ++ (if mutable then codes "mut " else [])))

abbrev mutual
  pub tree_text : TypeTree → List ℕ
  tree_text (tuple_type types) = tuple_text (λ t. t) (tree_texts types)
  tree_text (slice_type element) = codes "[" ++ (tree_text element ++ codes "]")
  tree_text (nominal_type path types) = path_text path ++ arguments_text (λ t. t) (tree_texts types)
  tree_text (object_type path types) = codes "dyn " ++ (path_text path ++ arguments_text (λ t. t) (tree_texts types))
  tree_text (associated_type name id) = name ++ (codes "::" ++ id)
  tree_text (lifetime_type name) = name
  tree_text (reference_type lifetime mutable referent) = lifetime_text lifetime mutable ++ tree_text referent
  tree_text (function_type binder path types ret) = fn_head_text binder path ++ (parameters_text (λ t. t) (tree_texts types) ++ result_text ret)

  pub tree_texts : TypeTrees → List (List ℕ)
  tree_texts end = []
  tree_texts (more ty types) = tree_text ty ∷ tree_texts types

  pub result_text : TypeTrees → List ℕ
  result_text end = []
  result_text (more ty types) = codes " -> " ++ tree_text ty

reference_shown : (lifetime : Option (String Global)) (mutable : Bool) → reference_text lifetime mutable ≡ lifetime_text (name_of lifetime) mutable
reference_shown None mutable = refl
reference_shown (Some name) mutable = refl

mutual
  shown_by_tree : (ty : TypeRepr) → type_text ty ≡ tree_text (type_tree ty)
  shown_by_tree (Tuple' shape types) = ap (tuple_text (λ t. t)) (row_by_trees types)
  shown_by_tree (Slice' p element) = ap (λ l. codes "[" ++ (l ++ codes "]")) (shown_by_tree element)
  shown_by_tree (Nominal' path shape types) = ap (λ l. path_text path ++ arguments_text (λ t. t) l) (row_by_trees types)
  shown_by_tree (TraitObject' path shape types) = ap (λ l. codes "dyn " ++ (path_text path ++ arguments_text (λ t. t) l)) (row_by_trees types)
  shown_by_tree (Associated name id) = refl
  shown_by_tree (Lifetime name) = refl
  shown_by_tree (Ref' lifetime mutable p referent) = ap (λ l. l ++ type_text referent) (reference_shown lifetime mutable) ∙ ap (λ l. lifetime_text (name_of lifetime) mutable ++ l) (shown_by_tree referent)
  shown_by_tree (Fn' binder path shape types ret) =
      ap (λ l. fn_head_text binder.items path ++ (parameters_text (λ t. t) l ++ held_text ret)) (row_by_trees types)
      ∙ ap (λ l. fn_head_text binder.items path ++ (parameters_text (λ t. t) (tree_texts (row_trees types)) ++ l)) (held_by_trees ret)

  row_by_trees : {m : _} → (types : Row_of-TypeRepr m) → row_texts types ≡ tree_texts (row_trees types)
  row_by_trees end_of-TypeRepr = refl
  row_by_trees (more_of-TypeRepr ty types) = ap (λ l. l ∷ row_texts types) (shown_by_tree ty) ∙ ap (λ l. tree_text (type_tree ty) ∷ l) (row_by_trees types)

  held_by_trees : (ret : Held-TypeRepr-Fn-3) → held_text ret ≡ result_text (held_trees ret)
  held_by_trees None' = refl
  held_by_trees (Some' p ty) = ap (λ l. codes " -> " ++ l) (shown_by_tree ty)

-- types with one tree have one text
pub same_text_of_trees : (one other : TypeRepr) → type_tree one ≡ type_tree other → type_text one ≡ type_text other
same_text_of_trees one other e = shown_by_tree one ∙ (ap tree_text e ∙ sym (shown_by_tree other))
