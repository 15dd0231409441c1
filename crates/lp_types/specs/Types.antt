-- Types.
use Rattle.std.specs.Prelude.{ℕ, Bool, true, false, List, [], Option, Some, None, zero, suc}
use Rattle.lp_repr.specs.declared.parse_tree.Path.{Path}
use Rattle.lp_repr.specs.TypeTrees.{TypeTree, TypeTrees, tuple_type, slice_type, nominal_type, object_type, lifetime_type, reference_type, trees_of}
use Rattle.lp_tok.specs.declared.tok.Tok.{Tok}
use Rattle.lp_tok.specs.declared.tok.Tok.TheVariants.{LeftParen, RightParen, LeftBracket, RightBracket, Ampersand, Dyn, LessThan, GreaterThan, Mut}
use Rattle.lp_types.specs.declared.texts.Kind.TheVariants as kind
use Rattle.lp_types.specs.declared.reader.TheConstants.{MOST_DEPTH}
use Rattle.lp_types.specs.Reading.{Reading, Deep, ◌>>=◌, give, where_next, expected, taken, taken_where, passed, repeated, listed}
use Rattle.lp_types.specs.Names.{path}

-- What is told over `inner` has types inside, which `inner` reads.

abbrev pub lifetime_or_type : Reading TypeTree → Option (List ℕ) → Reading TypeTree
lifetime_or_type inner (Some name) = give (lifetime_type name)
lifetime_or_type inner None = inner

-- a type, or also a lifetime, where those are allowed
unfoldable pub argument_by : Reading TypeTree → Bool → Reading TypeTree
argument_by inner lifetimes = taken_where lifetimes kind.Lifetime >>= lifetime_or_type inner

-- types between commas, up to the closer
unfoldable pub types_by : Reading TypeTree → Bool → Tok → Reading (List TypeTree)
types_by inner lifetimes closer = repeated (listed closer (argument_by inner lifetimes))

-- the arguments of a path, if it has some: types and lifetimes in `<` and `>`
unfoldable pub arguments_by : Reading TypeTree → Reading (List TypeTree)
arguments_by inner = where_next LessThan (types_by inner true GreaterThan) (give [])

abbrev pub named_tree : Bool → Path → TypeTrees → TypeTree
named_tree true path types = object_type path types
named_tree false path types = nominal_type path types

-- a path with its arguments, after `dyn` or without it
unfoldable pub named_by : Reading TypeTree → Bool → Reading TypeTree
named_by inner object = path true >>= λ p. arguments_by inner >>= λ types. give (named_tree object p (trees_of types))

-- what follows `(`
unfoldable pub tuple_by : Reading TypeTree → Reading TypeTree
tuple_by inner = types_by inner false RightParen >>= λ types. give (tuple_type (trees_of types))

-- what follows `&`
unfoldable pub reference_by : Reading TypeTree → Reading TypeTree
reference_by inner = taken kind.Lifetime >>= λ lifetime. passed Mut >>= λ mutable. inner >>= λ referent. give (reference_type lifetime mutable referent)

-- what follows `[`
unfoldable pub slice_by : Reading TypeTree → Reading TypeTree
slice_by inner = inner >>= λ element. expected RightBracket >>= λ _. give (slice_type element)

-- a type: a tuple, a slice, a reference, an object, or a path with its arguments
unfoldable pub type_by : Reading TypeTree → Reading TypeTree
type_by inner =
    where_next LeftParen (tuple_by inner)
    (where_next LeftBracket (slice_by inner)
    (where_next Ampersand (reference_by inner)
    (passed Dyn >>= named_by inner)))

-- a type that nests at most so deep
unfoldable pub type_within : ℕ → Reading TypeTree
type_within zero = λ ts. Deep
type_within (suc depth) = type_by (type_within depth)

-- a type that nests at most as deep as a reader goes
unfoldable pub full_type : Reading TypeTree
full_type = type_within MOST_DEPTH
