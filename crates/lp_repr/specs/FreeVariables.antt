-- Free variables: the type and lifetime parameters that occur, in order, with repeats.
use Rattle.std.specs.Prelude.{ℕ, String, Bool, true, false, not, List, [], ◌∷◌, ◌++◌, filter, map, Option, None, Some, if◌then◌else◌, string_bytes}
use Rattle.std.specs.List.{list_any, flat_map}
use Rattle.std.specs.Global.{Global}
use Rattle.lp_repr.specs.Names.{same_text}
use Rattle.lp_repr.specs.declared.parse_tree.TypeParameter.{TypeParameter}
use Rattle.lp_repr.specs.declared.parse_tree.TypeParameter.TheVariants as parameter
use Rattle.lp_repr.specs.declared.parse_tree.Path.{Path}
use Rattle.lp_repr.specs.declared.parse_tree.TypeBound.{TypeBound}
use Rattle.lp_repr.specs.declared.parse_tree.TypeBound.TheVariants as bound
use Rattle.lp_repr.specs.declared.parse_tree.TypeBoundParameter.{TypeBoundParameter}
use Rattle.lp_repr.specs.declared.parse_tree.TypeBoundParameter.TheVariants as bound_parameter
use Rattle.lp_repr.specs.declared.parse_tree.WhereClause.{WhereClause as FileClause}
use Rattle.lp_repr.specs.declared.parse_tree.WhereClause.TheVariants as file_clause
use Rattle.lp_repr.specs.declared.repr.WhereClause.{WhereClause, Forall', Bound}
use Rattle.lp_repr.specs.declared.repr.TypeRepr.{TypeRepr, Tuple', Slice', Nominal', Associated, TraitObject', Lifetime, Ref', Fn', Row_of-TypeRepr, end_of-TypeRepr, more_of-TypeRepr, Held-TypeRepr-Fn-3, None', Some'}

-- the parameters are of one kind and have the same name
abbrev pub same_parameter : TypeParameter → TypeParameter → Bool
same_parameter (parameter.Lifetime s) (parameter.Lifetime t) = same_text s t
same_parameter (parameter.Lifetime s) (parameter.Id t) = false
same_parameter (parameter.Id s) (parameter.Lifetime t) = false
same_parameter (parameter.Id s) (parameter.Id t) = same_text s t

-- the parameter, where it is declared
abbrev pub declared_one : List TypeParameter → TypeParameter → List TypeParameter
declared_one declared p = if list_any (same_parameter p) declared then p ∷ [] else []

-- the parameters without those that a binder names
abbrev pub unbound : List TypeParameter → List TypeParameter → List TypeParameter
unbound binder ps = filter (λ p. not (list_any (same_parameter p) binder)) ps

-- a path of one name counts where it is declared
abbrev pub free_in_names : List TypeParameter → List (List ℕ) → List TypeParameter
free_in_names declared [] = []
free_in_names declared (name ∷ []) = declared_one declared (parameter.Id name)
free_in_names declared (name ∷ (other ∷ names)) = []

-- but not an absolute one
abbrev pub free_in_path : List TypeParameter → Path → List TypeParameter
free_in_path declared path = if path.absolute then [] else free_in_names declared path.ids

-- a reference's lifetime counts always
abbrev pub free_in_lifetime : Option (String Global) → List TypeParameter
free_in_lifetime None = []
free_in_lifetime (Some name) = parameter.Lifetime (string_bytes name) ∷ []

abbrev mutual
  -- the free variables of a type
  pub free_in_type : List TypeParameter → TypeRepr → List TypeParameter
  free_in_type declared (Tuple' shape types) = free_in_row declared types
  free_in_type declared (Slice' p element) = free_in_type declared element
  free_in_type declared (Nominal' path shape types) = free_in_path declared path ++ free_in_row declared types
  free_in_type declared (TraitObject' path shape types) = free_in_path declared path ++ free_in_row declared types
  free_in_type declared (Associated name id) = declared_one declared (parameter.Id (string_bytes name))
  free_in_type declared (Lifetime name) = declared_one declared (parameter.Lifetime (string_bytes name))
  free_in_type declared (Ref' lifetime mutable p referent) = free_in_lifetime lifetime ++ free_in_type declared referent
  free_in_type declared (Fn' binder path shape types ret) = unbound binder.items ((free_in_path declared path ++ free_in_row declared types) ++ free_in_ret declared ret)

  -- of a list of types
  pub free_in_row : {m : _} → List TypeParameter → Row_of-TypeRepr m → List TypeParameter
  free_in_row declared end_of-TypeRepr = []
  free_in_row declared (more_of-TypeRepr ty types) = free_in_type declared ty ++ free_in_row declared types

  -- of a result
  pub free_in_ret : List TypeParameter → Held-TypeRepr-Fn-3 → List TypeParameter
  free_in_ret declared None' = []
  free_in_ret declared (Some' p ty) = free_in_type declared ty

-- of a bound, over what gives the free variables of its types
abbrev pub free_in_option : {T : Type 0} → (T → List TypeParameter) → Option T → List TypeParameter
free_in_option free None = []
free_in_option free (Some x) = free x

abbrev pub free_in_parameter : {T : Type 0} → (T → List TypeParameter) → List TypeParameter → TypeBoundParameter T → List TypeParameter
free_in_parameter free declared (bound_parameter.Lifetime name) = declared_one declared (parameter.Lifetime name)
free_in_parameter free declared (bound_parameter.TypeParameter ty) = free ty
free_in_parameter free declared (bound_parameter.Associated name ty) = []

abbrev pub free_in_bound : {T : Type 0} → (T → List TypeParameter) → List TypeParameter → TypeBound T → List TypeParameter
free_in_bound free declared (bound.Lifetime name) = declared_one declared (parameter.Lifetime name)
free_in_bound free declared (bound.Fn binder path types ret) = unbound binder ((free_in_path declared path ++ flat_map free types) ++ free_in_option free ret)
free_in_bound free declared (bound.Trait binder path parameters) = unbound binder (free_in_path declared path ++ flat_map (free_in_parameter free declared) parameters)

-- of a clause of a grammar file
abbrev pub free_in_file_clause : {T : Type 0} → (T → List TypeParameter) → List TypeParameter → FileClause T → List TypeParameter
free_in_file_clause free declared (file_clause.Lifetime lifetime bounds) = parameter.Lifetime lifetime ∷ map parameter.Lifetime bounds
free_in_file_clause free declared (file_clause.Bounded binder ty bounds) = unbound binder (free ty ++ flat_map (free_in_bound free declared) bounds)

-- of a lowered clause
abbrev pub free_in_clause : List TypeParameter → WhereClause → List TypeParameter
free_in_clause declared (Forall' binder p clause) = unbound binder.items (free_in_clause declared clause)
free_in_clause declared (Bound subject bound) = free_in_type declared subject ++ free_in_bound (free_in_type declared) declared bound
