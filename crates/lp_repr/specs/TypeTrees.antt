-- Types and clauses as trees: what they hold, without the pointers to their parts.
use Rattle.std.specs.Prelude.{ℕ, String, Bool, List, [], ◌∷◌, map, Option, None, Some, string_bytes}
use Rattle.std.specs.Option.{option_map}
use Rattle.std.specs.Global.{Global}
use Rattle.std.specs.declared.boxed.Box.{Box}
use Rattle.lp_repr.specs.declared.parse_tree.TypeParameter.{TypeParameter}
use Rattle.lp_repr.specs.declared.parse_tree.Path.{Path}
use Rattle.lp_repr.specs.declared.parse_tree.TypeBound.{TypeBound}
use Rattle.lp_repr.specs.declared.parse_tree.TypeBound.TheVariants as bound
use Rattle.lp_repr.specs.declared.parse_tree.TypeBoundParameter.{TypeBoundParameter}
use Rattle.lp_repr.specs.declared.parse_tree.TypeBoundParameter.TheVariants as bound_parameter
use Rattle.lp_repr.specs.declared.repr.NominalTypeRepr.{NominalTypeRepr}
use Rattle.lp_repr.specs.declared.repr.WhereClause.{WhereClause, Forall', Bound}
use Rattle.lp_repr.specs.declared.repr.TypeRepr.{TypeRepr, Tuple', Slice', Nominal', Associated, TraitObject', Lifetime, Ref', Fn', Row_of-TypeRepr, end_of-TypeRepr, more_of-TypeRepr, Held-TypeRepr-Fn-3, None', Some'}

mutual
  -- a type; the result of a function is at most one type
  pub data TypeTree : Type 0 where
    tuple_type : TypeTrees → TypeTree
    slice_type : TypeTree → TypeTree
    nominal_type : Path → TypeTrees → TypeTree
    associated_type : List ℕ → List ℕ → TypeTree
    object_type : Path → TypeTrees → TypeTree
    lifetime_type : List ℕ → TypeTree
    reference_type : Option (List ℕ) → Bool → TypeTree → TypeTree
    function_type : List TypeParameter → Path → TypeTrees → TypeTrees → TypeTree

  -- types in a row
  pub data TypeTrees : Type 0 where
    end : TypeTrees
    more : TypeTree → TypeTrees → TypeTrees

abbrev pub trees_of : List TypeTree → TypeTrees
trees_of [] = end
trees_of (t ∷ ts) = more t (trees_of ts)

-- the name of a reference's lifetime
abbrev pub name_of : Option (String Global) → Option (List ℕ)
name_of lifetime = option_map (λ s. string_bytes s) lifetime

abbrev mutual
  -- the tree of a type
  pub type_tree : TypeRepr → TypeTree
  type_tree (Tuple' shape types) = tuple_type (row_trees types)
  type_tree (Slice' p element) = slice_type (type_tree element)
  type_tree (Nominal' path shape types) = nominal_type path (row_trees types)
  type_tree (TraitObject' path shape types) = object_type path (row_trees types)
  type_tree (Associated name id) = associated_type (string_bytes name) (string_bytes id)
  type_tree (Lifetime name) = lifetime_type (string_bytes name)
  type_tree (Ref' lifetime mutable p referent) = reference_type (name_of lifetime) mutable (type_tree referent)
  type_tree (Fn' binder path shape types ret) = function_type binder.items path (row_trees types) (held_trees ret)

  -- of each type of a list
  pub row_trees : {m : _} → Row_of-TypeRepr m → TypeTrees
  row_trees end_of-TypeRepr = end
  row_trees (more_of-TypeRepr ty types) = more (type_tree ty) (row_trees types)

  -- of a result
  pub held_trees : Held-TypeRepr-Fn-3 → TypeTrees
  held_trees None' = end
  held_trees (Some' p ty) = more (type_tree ty) end

-- the trees of types
abbrev pub types_trees : List TypeRepr → TypeTrees
types_trees types = trees_of (map type_tree types)

-- the trees of a result
abbrev pub ret_trees : Option (Box TypeRepr Global) → TypeTrees
ret_trees None = end
ret_trees (Some ty) = more (type_tree ty.value) end

-- the tree of a path with its arguments
abbrev pub nominal_tree : NominalTypeRepr → TypeTree
nominal_tree n = nominal_type n.path (types_trees n.types.items)

-- an argument of a bound's path, over the trees of its types
abbrev pub bound_parameter_tree : TypeBoundParameter TypeRepr → TypeBoundParameter TypeTree
bound_parameter_tree (bound_parameter.Lifetime name) = bound_parameter.Lifetime name
bound_parameter_tree (bound_parameter.TypeParameter ty) = bound_parameter.TypeParameter (type_tree ty)
bound_parameter_tree (bound_parameter.Associated name ty) = bound_parameter.Associated name (type_tree ty)

-- a bound, over the trees of its types
abbrev pub bound_tree : TypeBound TypeRepr → TypeBound TypeTree
bound_tree (bound.Lifetime name) = bound.Lifetime name
bound_tree (bound.Fn binder path types ret) = bound.Fn binder path (map type_tree types) (option_map type_tree ret)
bound_tree (bound.Trait binder path parameters) = bound.Trait binder path (map bound_parameter_tree parameters)

-- a clause: the binders in front of it, and the bound of a type
pub data ClauseTree : Type 0 where
  forall_clause : List TypeParameter → ClauseTree → ClauseTree
  bound_clause : TypeTree → TypeBound TypeTree → ClauseTree

abbrev pub clause_tree : WhereClause → ClauseTree
clause_tree (Forall' binder p clause) = forall_clause binder.items (clause_tree clause)
clause_tree (Bound subject bound) = bound_clause (type_tree subject) (bound_tree bound)
