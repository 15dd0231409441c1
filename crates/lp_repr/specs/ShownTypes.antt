-- How types, bounds and clauses are shown: their bytes.
use Rattle.std.specs.Prelude.{ℕ, String, Bool, List, [], ◌∷◌, ◌++◌, length, ◌==◌, Option, None, Some, codes, if◌then◌else◌, string_bytes}
use Rattle.std.specs.List.{join_by}
use Rattle.std.specs.Global.{Global}
use Rattle.lp_repr.specs.Shown.{parameter_text, path_text, binder_text}
use Rattle.lp_repr.specs.declared.parse_tree.TypeParameter.{TypeParameter}
use Rattle.lp_repr.specs.declared.parse_tree.Path.{Path}
use Rattle.lp_repr.specs.declared.parse_tree.TypeBound.{TypeBound}
use Rattle.lp_repr.specs.declared.parse_tree.TypeBound.TheVariants as bound
use Rattle.lp_repr.specs.declared.parse_tree.TypeBoundParameter.{TypeBoundParameter}
use Rattle.lp_repr.specs.declared.parse_tree.TypeBoundParameter.TheVariants as bound_parameter
use Rattle.lp_repr.specs.declared.parse_tree.WhereClause.{WhereClause as FileClause}
use Rattle.lp_repr.specs.declared.parse_tree.WhereClause.TheVariants as file_clause
use Rattle.lp_repr.specs.declared.repr.NominalTypeRepr.{NominalTypeRepr}
use Rattle.lp_repr.specs.declared.repr.WhereClause.{WhereClause, Forall', Bound}
use Rattle.lp_repr.specs.declared.repr.TypeRepr.{TypeRepr, Tuple', Slice', Nominal', Associated, TraitObject', Lifetime, Ref', Fn', Row_of-TypeRepr, end_of-TypeRepr, more_of-TypeRepr, Held-TypeRepr-Fn-3, None', Some'}

-- a tuple, where one of one element has a `,` after it
abbrev pub tuple_text : {T : Type 0} → (T → List ℕ) → List T → List ℕ
tuple_text shown xs = codes "(" ++ (join_by shown (codes ", ") xs ++ (if length xs == 1 then codes ",)" else codes ")"))

-- the parameters of a function
abbrev pub parameters_text : {T : Type 0} → (T → List ℕ) → List T → List ℕ
parameters_text shown xs = codes "(" ++ (join_by shown (codes ", ") xs ++ codes ")")

-- its result, nothing where it has none
abbrev pub ret_text : {T : Type 0} → (T → List ℕ) → Option T → List ℕ
ret_text shown None = []
ret_text shown (Some x) = codes " -> " ++ shown x

-- the arguments of a path, nothing where it has none
abbrev pub arguments_text : {T : Type 0} → (T → List ℕ) → List T → List ℕ
arguments_text shown [] = []
arguments_text shown (x ∷ xs) = codes "<" ++ (join_by shown (codes ", ") (x ∷ xs) ++ codes ">")

-- what stands before the type that a reference leads to
abbrev pub reference_text : Option (String Global) → Bool → List ℕ
reference_text None mutable = codes "&" ++ (if mutable then codes "mut " else [])
reference_text (Some name) mutable = codes "&" ++ (string_bytes name ++ (codes " " ++ (if mutable then codes "mut " else [])))

-- what stands before the parameters of a function's type
abbrev pub fn_head_text : List TypeParameter → Path → List ℕ
fn_head_text binder path = codes "dyn " ++ (binder_text binder ++ path_text path)

abbrev mutual
  -- a type
  pub type_text : TypeRepr → List ℕ
  type_text (Tuple' shape types) = tuple_text (λ t. t) (row_texts types)
  type_text (Slice' p element) = codes "[" ++ (type_text element ++ codes "]")
  type_text (Nominal' path shape types) = path_text path ++ arguments_text (λ t. t) (row_texts types)
  type_text (TraitObject' path shape types) = codes "dyn " ++ (path_text path ++ arguments_text (λ t. t) (row_texts types))
  type_text (Associated name id) = string_bytes name ++ (codes "::" ++ string_bytes id)
  type_text (Lifetime name) = string_bytes name
  type_text (Ref' lifetime mutable p referent) = reference_text lifetime mutable ++ type_text referent
  type_text (Fn' binder path shape types ret) = fn_head_text binder.items path ++ (parameters_text (λ t. t) (row_texts types) ++ held_text ret)

  -- each type of a list
  pub row_texts : {m : _} → Row_of-TypeRepr m → List (List ℕ)
  row_texts end_of-TypeRepr = []
  row_texts (more_of-TypeRepr ty types) = type_text ty ∷ row_texts types

  -- a result
  pub held_text : Held-TypeRepr-Fn-3 → List ℕ
  held_text None' = []
  held_text (Some' p ty) = codes " -> " ++ type_text ty

-- a path with its arguments
abbrev pub nominal_text : NominalTypeRepr → List ℕ
nominal_text n = path_text n.path ++ arguments_text type_text n.types.items

-- an argument of a bound's path, over what gives the text of its type
abbrev pub bound_parameter_text : {T : Type 0} → (T → List ℕ) → TypeBoundParameter T → List ℕ
bound_parameter_text shown (bound_parameter.Lifetime name) = name
bound_parameter_text shown (bound_parameter.TypeParameter ty) = shown ty
bound_parameter_text shown (bound_parameter.Associated name ty) = name ++ (codes " = " ++ shown ty)

-- a bound
abbrev pub bound_text : {T : Type 0} → (T → List ℕ) → TypeBound T → List ℕ
bound_text shown (bound.Lifetime name) = name
bound_text shown (bound.Fn binder path types ret) = binder_text binder ++ (path_text path ++ (parameters_text shown types ++ ret_text shown ret))
bound_text shown (bound.Trait binder path parameters) = binder_text binder ++ (path_text path ++ arguments_text (bound_parameter_text shown) parameters)

-- a clause of a grammar file
abbrev pub file_clause_text : {T : Type 0} → (T → List ℕ) → FileClause T → List ℕ
file_clause_text shown (file_clause.Lifetime lifetime bounds) = lifetime ++ (codes ": " ++ join_by (λ t. t) (codes " + ") bounds)
file_clause_text shown (file_clause.Bounded binder ty bounds) = binder_text binder ++ (shown ty ++ (codes ": " ++ join_by (bound_text shown) (codes " + ") bounds))

-- a lowered clause
abbrev pub clause_text : WhereClause → List ℕ
clause_text (Forall' binder p clause) = codes "for<" ++ (join_by parameter_text (codes ", ") binder.items ++ (codes "> " ++ clause_text clause))
clause_text (Bound subject bound) = type_text subject ++ (codes ": " ++ bound_text type_text bound)
