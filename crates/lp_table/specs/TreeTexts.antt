-- How types and clauses are shown, by their trees.
use Rattle.std.specs.Prelude.{ℕ, Bool, List, [], ◌∷◌, ◌++◌, codes, Option, Some, None, if◌then◌else◌}
use Rattle.std.specs.List.{join_by}
use Rattle.lp_repr.specs.Shown.{parameter_text, path_text}
use Rattle.lp_repr.specs.ShownTypes.{arguments_text, bound_text, fn_head_text, parameters_text, tuple_text}
use Rattle.lp_repr.specs.TypeTrees.{TypeTree, TypeTrees, ClauseTree, tuple_type, slice_type, nominal_type, associated_type, object_type, lifetime_type, reference_type, function_type, end, more, forall_clause, bound_clause}

-- what stands before the type that a reference leads to
abbrev pub lifetime_text : Option (List ℕ) → Bool → List ℕ
lifetime_text None mutable = codes "&" ++ (if mutable then codes "mut " else [])
lifetime_text (Some name) mutable = codes "&" ++ (name ++ (codes " " ++ (if mutable then codes "mut " else [])))

abbrev mutual
  pub tree_text : TypeTree → List ℕ
  tree_text (tuple_type types) = tuple_text (λ t. t) (tree_texts types)
  tree_text (slice_type element) = codes "[" ++ (tree_text element ++ codes "]")
  tree_text (nominal_type path types) = path_text path ++ arguments_text (λ t. t) (tree_texts types)
  tree_text (object_type path types) = codes "dyn " ++ (path_text path ++ arguments_text (λ t. t) (tree_texts types))
  tree_text (associated_type name id) = name ++ (codes "::" ++ id)
  tree_text (lifetime_type name) = name
  tree_text (reference_type lifetime mutable referent) = lifetime_text lifetime mutable ++ tree_text referent
  tree_text (function_type binder path types ret) =
      fn_head_text binder path ++ (parameters_text (λ t. t) (tree_texts types) ++ result_text ret)

  pub tree_texts : TypeTrees → List (List ℕ)
  tree_texts end = []
  tree_texts (more ty types) = tree_text ty ∷ tree_texts types

  pub result_text : TypeTrees → List ℕ
  result_text end = []
  result_text (more ty types) = codes " -> " ++ tree_text ty

-- a clause
abbrev pub clause_tree_text : ClauseTree → List ℕ
clause_tree_text (forall_clause binder clause) =
    codes "for<" ++ (join_by parameter_text (codes ", ") binder ++ (codes "> " ++ clause_tree_text clause))
clause_tree_text (bound_clause subject bound) = tree_text subject ++ (codes ": " ++ bound_text tree_text bound)
