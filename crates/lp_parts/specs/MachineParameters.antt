-- The parameters of a grammar as fields of a struct: each reference has a lifetime, which the
-- variables of what it leads to outlive.
use Rattle.std.specs.Prelude.{ℕ, ◌+◌, String, false, List, [], ◌∷◌, ◌++◌, fold, length, map, Option, Some, None, if◌then◌else◌}
use Rattle.std.specs.List.{flat_map}
use Rattle.std.specs.Global.{Global}
use Rattle.std.specs.declared.boxed.Box.{Box}
use Rattle.lp_repr.specs.FreeVariables.{free_in_type}
use Rattle.lp_repr.specs.TypeTrees.{TypeTree, ClauseTree, bound_clause, clause_tree, end, lifetime_type, nominal_type, type_tree}
use Rattle.lp_repr.specs.declared.parse_tree.TypeBound.TheVariants as bound
use Rattle.lp_repr.specs.declared.parse_tree.TypeParameter.{TypeParameter}
use Rattle.lp_repr.specs.declared.parse_tree.TypeParameter.TheVariants as parameter
use Rattle.lp_repr.specs.declared.repr.Grammar.{Grammar}
use Rattle.lp_repr.specs.declared.repr.Parameter.{Parameter}
use Rattle.lp_repr.specs.declared.repr.TypeRepr.{TypeRepr, Tuple', Slice', Nominal', Associated, TraitObject', Lifetime, Ref', Fn', Row_of-TypeRepr, end_of-TypeRepr, more_of-TypeRepr, Held-TypeRepr-Fn-3, None', Some'}
use Rattle.lp_parts.specs.Filter.{has_parameter}
use Rattle.lp_parts.specs.Named.{named, new_lifetime, unnamed}

-- what a reference without a lifetime leads to
abbrev pub if_bare : Option (String Global) → TypeRepr → List TypeRepr
if_bare None referent = referent ∷ []
if_bare (Some name) referent = []

abbrev mutual
  -- what the references of a type that have no lifetime lead to, outer ones before those inside
  pub referents : TypeRepr → List TypeRepr
  referents (Tuple' shape types) = row_referents types
  referents (Slice' p element) = referents element
  referents (Nominal' path shape types) = row_referents types
  referents (TraitObject' path shape types) = row_referents types
  referents (Associated name id) = []
  referents (Lifetime name) = []
  referents (Ref' lifetime mutable p referent) = if_bare lifetime referent ++ referents referent
  referents (Fn' binder path shape types ret) = row_referents types ++ held_referents ret

  -- of a list of types
  pub row_referents : {m : _} → Row_of-TypeRepr m → List TypeRepr
  row_referents end_of-TypeRepr = []
  row_referents (more_of-TypeRepr ty types) = referents ty ++ row_referents types

  -- of a result
  pub held_referents : Held-TypeRepr-Fn-3 → List TypeRepr
  held_referents None' = []
  held_referents (Some' p ty) = referents ty

-- of a result as code has it
abbrev pub ret_referents : Option (Box TypeRepr Global) → List TypeRepr
ret_referents None = []
ret_referents (Some ty) = referents ty.value

-- those of all parameters
abbrev pub all_referents : List Parameter → List TypeRepr
all_referents parameters = flat_map (λ p. referents p.ty) parameters

-- the lifetimes that they get, from a number on
abbrev pub lifetimes_from : List ℕ → ℕ → List TypeRepr → List TypeParameter
lifetimes_from prefix n [] = []
lifetimes_from prefix n (r ∷ rs) = parameter.Lifetime (new_lifetime prefix n) ∷ lifetimes_from prefix (n + 1) rs

-- parameters, each once, in the order of their first places
abbrev pub with_parameter : List TypeParameter → TypeParameter → List TypeParameter
with_parameter seen p = if has_parameter seen p then seen else seen ++ p ∷ []

abbrev pub distinct : List TypeParameter → List TypeParameter
distinct ps = fold with_parameter [] ps

-- a parameter as a type
abbrev pub parameter_tree : TypeParameter → TypeTree
parameter_tree (parameter.Lifetime name) = lifetime_type name
parameter_tree (parameter.Id name) = nominal_type (record { absolute = false; ids = name ∷ [] }) end

-- a parameter outlives a lifetime
abbrev pub outlives : List ℕ → TypeParameter → ClauseTree
outlives lifetime p = bound_clause (parameter_tree p) (bound.Lifetime lifetime)

-- each variable of a type outlives a lifetime
abbrev pub outlived : List TypeParameter → List ℕ → TypeRepr → List ClauseTree
outlived declared lifetime ty = map (outlives lifetime) (distinct (free_in_type declared ty))

-- the clauses of lifetimes from a number on
abbrev pub outlived_from : List TypeParameter → List ℕ → ℕ → List TypeRepr → List ClauseTree
outlived_from declared prefix n [] = []
outlived_from declared prefix n (r ∷ rs) =
    outlived declared (new_lifetime prefix n) r ++ outlived_from declared prefix (n + 1) rs

-- a lifetime, and another parameter
abbrev pub if_lifetime : TypeParameter → List TypeParameter
if_lifetime (parameter.Lifetime name) = parameter.Lifetime name ∷ []
if_lifetime (parameter.Id name) = []

abbrev pub if_id : TypeParameter → List TypeParameter
if_id (parameter.Lifetime name) = []
if_id (parameter.Id name) = parameter.Id name ∷ []

-- the lifetimes, and then the others, each in their order
abbrev pub lifetimes_first : List TypeParameter → List TypeParameter
lifetimes_first ps = flat_map if_lifetime ps ++ flat_map if_id ps

-- a field by its name and the tree of its type
abbrev pub field_tree : Parameter → List ℕ × TypeTree
field_tree p = (p.name, type_tree p.ty)

-- fields with lifetimes from a number on
abbrev pub fields_from : List ℕ → ℕ → List Parameter → List (List ℕ × TypeTree)
fields_from prefix n [] = []
fields_from prefix n (p ∷ ps) =
    (p.name, named prefix n (type_tree p.ty)) ∷ fields_from prefix (n + unnamed (type_tree p.ty)) ps

-- the number of the first new lifetime
abbrev pub first_number : Grammar → ℕ
first_number g = length g.type_parameters

-- the type parameters, fields and clauses of the state machine
unfoldable pub machine_parameters : Grammar → List TypeParameter
machine_parameters g =
    lifetimes_first (g.type_parameters ++ lifetimes_from g.prefix (first_number g) (all_referents g.parameters))

unfoldable pub machine_fields : Grammar → List (List ℕ × TypeTree)
machine_fields g = fields_from g.prefix (first_number g) g.parameters

unfoldable pub machine_clauses : Grammar → List ClauseTree
machine_clauses g =
    map clause_tree g.where_clauses
    ++ outlived_from g.type_parameters g.prefix (first_number g) (all_referents g.parameters)
