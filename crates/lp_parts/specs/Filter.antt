-- What of a grammar speaks of the variables of some types alone.
use Rattle.std.specs.Prelude.{Bool, List, filter}
use Rattle.std.specs.List.{list_any, list_all, flat_map}
use Rattle.lp_repr.specs.FreeVariables.{same_parameter, free_in_type, free_in_clause}
use Rattle.lp_repr.specs.declared.parse_tree.TypeParameter.{TypeParameter}
use Rattle.lp_repr.specs.declared.repr.Grammar.{Grammar}
use Rattle.lp_repr.specs.declared.repr.TypeRepr.{TypeRepr}
use Rattle.lp_repr.specs.declared.repr.WhereClause.{WhereClause}

-- a parameter is among these
abbrev pub has_parameter : List TypeParameter → TypeParameter → Bool
has_parameter ps p = list_any (same_parameter p) ps

-- the variables that are free in types
abbrev pub free_in_types : Grammar → List TypeRepr → List TypeParameter
free_in_types g types = flat_map (free_in_type g.type_parameters) types

-- the declared type parameters among these variables, in the order in which they are declared
abbrev pub parameters_among : Grammar → List TypeParameter → List TypeParameter
parameters_among g free = filter (has_parameter free) g.type_parameters

-- all free variables of a clause are among these
abbrev pub speaks_of : List TypeParameter → List TypeParameter → WhereClause → Bool
speaks_of declared free clause = list_all (has_parameter free) (free_in_clause declared clause)

-- the clauses all of whose free variables are among these
abbrev pub clauses_among : Grammar → List TypeParameter → List WhereClause
clauses_among g free = filter (speaks_of g.type_parameters free) g.where_clauses
