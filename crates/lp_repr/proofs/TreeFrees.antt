-- The free variables of a type depend on its tree alone.
use Rattle.std.proofs.Common.{◌≡◌, ℕ, List, [], ◌∷◌, ◌++◌, refl, sym, ap, ◌∙◌, Option, None, Some, String, Global}
use Rattle.lp_repr.specs.FreeVariables.{declared_one, unbound, free_in_path, free_in_lifetime, free_in_type, free_in_row, free_in_ret}
use Rattle.lp_repr.specs.TypeTrees.{TypeTree, TypeTrees, tuple_type, slice_type, nominal_type, associated_type, object_type, lifetime_type, reference_type, function_type, end, more, type_tree, row_trees, held_trees, name_of}
use Rattle.lp_repr.specs.declared.parse_tree.TypeParameter.{TypeParameter}
use Rattle.lp_repr.specs.declared.parse_tree.TypeParameter.TheVariants as parameter
use Rattle.lp_repr.specs.declared.repr.TypeRepr.{TypeRepr, Tuple', Slice', Nominal', Associated, TraitObject', Lifetime, Ref', Fn', Row_of-TypeRepr, end_of-TypeRepr, more_of-TypeRepr, Held-TypeRepr-Fn-3, None', Some'}

abbrev free_in_name : Option (List ℕ) → List TypeParameter
free_in_name None = []
free_in_name (Some name) = parameter.Lifetime name ∷ []

abbrev mutual
  pub tree_free : List TypeParameter → TypeTree → List TypeParameter
  tree_free declared (tuple_type types) = trees_free declared types
  tree_free declared (slice_type element) = tree_free declared element
  tree_free declared (nominal_type path types) = free_in_path declared path ++ trees_free declared types
  tree_free declared (object_type path types) = free_in_path declared path ++ trees_free declared types
  tree_free declared (associated_type name id) = declared_one declared (parameter.Id name)
  tree_free declared (lifetime_type name) = declared_one declared (parameter.Lifetime name)
  tree_free declared (reference_type lifetime mutable referent) = free_in_name lifetime ++ tree_free declared referent
  tree_free declared (function_type binder path types ret) = unbound binder ((free_in_path declared path ++ trees_free declared types) ++ result_free declared ret)

  pub trees_free : List TypeParameter → TypeTrees → List TypeParameter
  trees_free declared end = []
  trees_free declared (more ty types) = tree_free declared ty ++ trees_free declared types

  pub result_free : List TypeParameter → TypeTrees → List TypeParameter
  result_free declared end = []
  result_free declared (more ty types) = tree_free declared ty

lifetime_free : (lifetime : Option (String Global)) → free_in_lifetime lifetime ≡ free_in_name (name_of lifetime)
lifetime_free None = refl
lifetime_free (Some name) = refl

mutual
  free_by_tree : (declared : List TypeParameter) (ty : TypeRepr) → free_in_type declared ty ≡ tree_free declared (type_tree ty)
  free_by_tree declared (Tuple' shape types) = row_free_by_trees declared types
  free_by_tree declared (Slice' p element) = free_by_tree declared element
  free_by_tree declared (Nominal' path shape types) = ap (λ l. free_in_path declared path ++ l) (row_free_by_trees declared types)
  free_by_tree declared (TraitObject' path shape types) = ap (λ l. free_in_path declared path ++ l) (row_free_by_trees declared types)
  free_by_tree declared (Associated name id) = refl
  free_by_tree declared (Lifetime name) = refl
  free_by_tree declared (Ref' lifetime mutable p referent) = ap (λ l. l ++ free_in_type declared referent) (lifetime_free lifetime) ∙ ap (λ l. free_in_name (name_of lifetime) ++ l) (free_by_tree declared referent)
  free_by_tree declared (Fn' binder path shape types ret) =
      ap (λ l. unbound binder.items ((free_in_path declared path ++ l) ++ free_in_ret declared ret)) (row_free_by_trees declared types)
      ∙ ap (λ l. unbound binder.items ((free_in_path declared path ++ trees_free declared (row_trees types)) ++ l)) (held_free_by_trees declared ret)

  row_free_by_trees : {m : _} → (declared : List TypeParameter) (types : Row_of-TypeRepr m) → free_in_row declared types ≡ trees_free declared (row_trees types)
  row_free_by_trees declared end_of-TypeRepr = refl
  row_free_by_trees declared (more_of-TypeRepr ty types) = ap (λ l. l ++ free_in_row declared types) (free_by_tree declared ty) ∙ ap (λ l. tree_free declared (type_tree ty) ++ l) (row_free_by_trees declared types)

  held_free_by_trees : (declared : List TypeParameter) (ret : Held-TypeRepr-Fn-3) → free_in_ret declared ret ≡ result_free declared (held_trees ret)
  held_free_by_trees declared None' = refl
  held_free_by_trees declared (Some' p ty) = free_by_tree declared ty

-- types with one tree have the same free variables
pub same_free_of_trees : (declared : List TypeParameter) (one other : TypeRepr) → type_tree one ≡ type_tree other → free_in_type declared one ≡ free_in_type declared other
same_free_of_trees declared one other e = free_by_tree declared one ∙ (ap (tree_free declared) e ∙ sym (free_by_tree declared other))
