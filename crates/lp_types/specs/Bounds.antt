-- Bounds of types.
use Rattle.std.specs.Prelude.{ℕ, Bool, true, false, List, [], Option, Some, None}
use Rattle.lp_repr.specs.declared.parse_tree.Path.{Path}
use Rattle.lp_repr.specs.declared.parse_tree.TypeParameter.{TypeParameter}
use Rattle.lp_repr.specs.declared.parse_tree.TypeBound.{TypeBound}
use Rattle.lp_repr.specs.declared.parse_tree.TypeBound.TheVariants as bound
use Rattle.lp_repr.specs.declared.parse_tree.TypeBoundParameter.{TypeBoundParameter}
use Rattle.lp_repr.specs.declared.parse_tree.TypeBoundParameter.TheVariants as argument
use Rattle.lp_repr.specs.TypeTrees.{TypeTree}
use Rattle.lp_tok.specs.declared.tok.Tok.TheVariants.{LeftParen, RightParen, LessThan, GreaterThan, Equals, MinusGreaterThan, For}
use Rattle.lp_types.specs.declared.texts.Kind.TheVariants as kind
use Rattle.lp_types.specs.Left.{after, next}
use Rattle.lp_types.specs.Marks.{is_tok, text_of}
use Rattle.lp_types.specs.Reading.{Reading, Read, ◌>>=◌, give, choose, where_next, expected, taken, text, repeated, listed}
use Rattle.lp_types.specs.Names.{path, type_parameters}
use Rattle.lp_types.specs.Types.{types_by, full_type}

-- the type parameters in `for<..>`
unfoldable pub binder : Reading (List TypeParameter)
binder = expected LessThan >>= λ _. type_parameters

-- those, if `for` comes
unfoldable pub maybe_binder : Reading (List TypeParameter)
maybe_binder = where_next For binder (give [])

abbrev pub is_named : Option (List ℕ) → Bool → Bool
is_named None b = false
is_named (Some name) b = b

-- whether a name with `=` after it comes next
unfoldable pub named_next : Reading Bool
named_next ts = Read (is_named (text_of kind.Id (next ts)) (is_tok Equals (next (after ts)))) ts

-- `I = A`
unfoldable pub associated : Reading (TypeBoundParameter TypeTree)
associated = text kind.Id >>= λ name. expected Equals >>= λ _. full_type >>= λ t. give (argument.Associated name t)

-- `A` or `I = A`
unfoldable pub typed_argument : Reading (TypeBoundParameter TypeTree)
typed_argument = named_next >>= λ b. choose b associated (full_type >>= λ t. give (argument.TypeParameter t))

abbrev pub lifetime_or_typed : Option (List ℕ) → Reading (TypeBoundParameter TypeTree)
lifetime_or_typed (Some name) = give (argument.Lifetime name)
lifetime_or_typed None = typed_argument

-- an argument of a bound's path: `'a`, `A` or `I = A`
unfoldable pub bound_argument : Reading (TypeBoundParameter TypeTree)
bound_argument = taken kind.Lifetime >>= lifetime_or_typed

-- arguments of a bound's path between commas, up to `>`
unfoldable pub bound_arguments : Reading (List (TypeBoundParameter TypeTree))
bound_arguments = repeated (listed GreaterThan bound_argument)

-- those, if `<` comes
unfoldable pub maybe_arguments : Reading (List (TypeBoundParameter TypeTree))
maybe_arguments = where_next LessThan bound_arguments (give [])

-- a bound that is a path with its arguments, if it has some
unfoldable pub trait_bound : List TypeParameter → Path → Reading (TypeBound TypeTree)
trait_bound names p = maybe_arguments >>= λ arguments. give (bound.Trait names p arguments)

-- the result of a function, if it has one
unfoldable pub ret : Reading (Option TypeTree)
ret = where_next MinusGreaterThan (full_type >>= λ t. give (Some t)) (give None)

-- a bound that is a function, from behind its `(` on
unfoldable pub function_bound : List TypeParameter → Path → Reading (TypeBound TypeTree)
function_bound names p = types_by full_type false RightParen >>= λ types. ret >>= λ r. give (bound.Fn names p types r)

-- a bound that begins with a path or with `for`: `for<'a> p(A) -> B` or `for<'a> p<A, I = B>`
unfoldable pub path_bound : Reading (TypeBound TypeTree)
path_bound = maybe_binder >>= λ names. path true >>= λ p. where_next LeftParen (function_bound names p) (trait_bound names p)

abbrev pub lifetime_or_path : Option (List ℕ) → Reading (TypeBound TypeTree)
lifetime_or_path (Some name) = give (bound.Lifetime name)
lifetime_or_path None = path_bound

-- a bound: a lifetime, or one that begins with a path or with `for`
unfoldable pub type_bound : Reading (TypeBound TypeTree)
type_bound = taken kind.Lifetime >>= lifetime_or_path
