-- Names, paths and type parameters.
use Rattle.std.specs.Prelude.{ℕ, Bool, false, List, Option, Some, None}
use Rattle.lp_repr.specs.declared.parse_tree.Path.{Path}
use Rattle.lp_repr.specs.declared.parse_tree.TypeParameter.{TypeParameter}
use Rattle.lp_repr.specs.declared.parse_tree.TypeParameter.TheVariants as parameter
use Rattle.lp_tok.specs.declared.tok.Tok.TheVariants.{ColonColon, GreaterThan}
use Rattle.lp_types.specs.declared.texts.Kind.TheVariants as kind
use Rattle.lp_types.specs.Reading.{Reading, ◌>>=◌, give, text, taken, taken_where, passed, chained, repeated, listed}

-- a name of a path, and whether `::` follows
unfoldable pub name_part : Reading (List ℕ × Bool)
name_part = text kind.Id >>= λ name. passed ColonColon >>= λ more. give (name, more)

abbrev pub last_or_part : Option (List ℕ) → Reading (List ℕ × Bool)
last_or_part (Some name) = give (name, false)
last_or_part None = name_part

-- a name of a path, and whether another one follows; the last one may be one that `<` follows at once,
-- where the path takes arguments
unfoldable pub part : Bool → Reading (List ℕ × Bool)
part takes = taken_where takes kind.MacroId >>= last_or_part

-- a path: names with `::` between, and before the first one where it is absolute
unfoldable pub path : Bool → Reading Path
path takes = passed ColonColon >>= λ absolute. chained (part takes) >>= λ ids. give (record { absolute = absolute; ids = ids })

abbrev pub lifetime_or_id : Option (List ℕ) → Reading TypeParameter
lifetime_or_id (Some name) = give (parameter.Lifetime name)
lifetime_or_id None = text kind.Id >>= λ name. give (parameter.Id name)

-- a type parameter: a lifetime or a name
unfoldable pub type_parameter : Reading TypeParameter
type_parameter = taken kind.Lifetime >>= lifetime_or_id

-- type parameters between commas, up to `>`
unfoldable pub type_parameters : Reading (List TypeParameter)
type_parameters = repeated (listed GreaterThan type_parameter)
