-- The `extern` block of a grammar file.
use Rattle.std.specs.Prelude.{ℕ, List, Option, Some, None}
use Rattle.lp_repr.specs.declared.consts.TheConstants.{ERROR, LOCATION}
use Rattle.lp_repr.specs.declared.repr.TerminalString.{TerminalString}
use Rattle.lp_repr.specs.declared.repr.TerminalString.TheVariants.{Quoted, Bare}
use Rattle.lp_repr.specs.TypeTrees.{TypeTree}
use Rattle.lp_syntax.specs.declared.plain.PlainTerminal.{PlainTerminal}
use Rattle.lp_tok.specs.declared.tok.Tok.TheVariants.{LeftBrace, RightBrace, Extern, Enum, TypeWord, Equals, Semi}
use Rattle.lp_types.specs.declared.texts.Kind.TheVariants as kind
use Rattle.lp_types.specs.Reading.{Reading, ◌>>=◌, give, choose, where_next, expected, expected_word, passed_word, text, repeated, listed, next_place}
use Rattle.lp_types.specs.Types.{full_type}
use Rattle.lp_reading.specs.Literals.{taken_value}
use Rattle.lp_reading.specs.Patterns.{Pattern, pattern_of, token_pattern}

-- what follows the name of an associated type
unfoldable pub associated_type : Reading TypeTree
associated_type = expected Equals >>= λ _. full_type >>= λ t. expected Semi >>= λ _. give t

-- the types of locations and of errors, where they are told
abbrev pub Told : Type 0
Told = Option TypeTree × Option TypeTree

-- `Error = T;` behind a location's type
unfoldable pub error_behind : Option TypeTree → Reading Told
error_behind location = expected_word ERROR.now >>= λ _. associated_type >>= λ t. give (location, Some t)

-- `type Error = T;`, if it comes
unfoldable pub maybe_error : Option TypeTree → Reading Told
maybe_error location = where_next TypeWord (error_behind location) (give (location, None))

-- `Location = T;`, and `type Error = T;`, if it comes
unfoldable pub location_first : Reading Told
location_first = expected_word LOCATION.now >>= λ _. associated_type >>= λ t. maybe_error (Some t)

-- `= T;` behind `type Error`
unfoldable pub error_alone : Reading Told
error_alone = associated_type >>= λ t. give (None, Some t)

-- what follows `type`
unfoldable pub told_types : Reading Told
told_types = passed_word ERROR.now >>= λ b. choose b error_alone location_first

-- `type Location = T;` and `type Error = T;` in this order, each of which may be there
unfoldable pub associated_types : Reading Told
associated_types = where_next TypeWord told_types (give (None, None))

-- a terminal that is a name
unfoldable pub bare_terminal : Reading TerminalString
bare_terminal = text kind.Id >>= λ name. give (Bare name)

abbrev pub quoted_or_bare : Option (List ℕ) → Reading TerminalString
quoted_or_bare (Some value) = give (Quoted value)
quoted_or_bare None = bare_terminal

-- a terminal: a string literal, its escapes applied, or a name
unfoldable pub terminal : Reading TerminalString
terminal = taken_value >>= quoted_or_bare

-- a terminal with its pattern
pub record TerminalTree : Type 0 where
  pub name : TerminalString
  pub pattern : Pattern
  pub place : ℕ

abbrev pub terminal_tree : PlainTerminal → TerminalTree
terminal_tree t = record { name = t.name; pattern = pattern_of t.pattern; place = t.place }

-- a terminal, `=>` and its pattern
unfoldable pub conversion : Reading TerminalTree
conversion =
    next_place >>= λ at. terminal >>= λ name. text kind.Code >>= λ _. token_pattern >>= λ pattern.
    give (record { name = name; pattern = pattern; place = at })

-- terminals between commas, up to `}`
unfoldable pub conversions : Reading (List TerminalTree)
conversions = repeated (listed RightBrace conversion)

-- the type of tokens, and the terminals
pub record EnumTree : Type 0 where
  pub token : TypeTree
  pub conversions : List TerminalTree

-- `enum T { .. }`
unfoldable pub token_enum : Reading EnumTree
token_enum =
    expected Enum >>= λ _. full_type >>= λ token. expected LeftBrace >>= λ _. conversions >>= λ found.
    give (record { token = token; conversions = found })

-- the `extern` block
pub record ExternTree : Type 0 where
  pub types : Told
  pub tokens : EnumTree

unfoldable pub extern_block : Reading ExternTree
extern_block =
    expected Extern >>= λ _. expected LeftBrace >>= λ _. associated_types >>= λ types. token_enum >>= λ tokens. expected RightBrace >>= λ _.
    give (record { types = types; tokens = tokens })
