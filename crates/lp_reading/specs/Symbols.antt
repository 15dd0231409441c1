-- Symbols and alternatives.
use Rattle.std.specs.Prelude.{ℕ, Bool, true, false, List, [], ◌++◌, Option, Some, None, codes}
use Rattle.std.specs.Str.{trim}
use Rattle.lp_syntax.specs.declared.plain.PlainKind.{PlainKind}
use Rattle.lp_syntax.specs.declared.plain.PlainKind.TheVariants as plain
use Rattle.lp_syntax.specs.declared.plain.PlainSymbol.{PlainSymbol}
use Rattle.lp_syntax.specs.declared.plain.PlainAlternative.{PlainAlternative}
use Rattle.lp_tok.specs.declared.tok.Tok.TheVariants.{LeftParen, RightParen, LessThan, GreaterThan, Colon, Mut, Lookahead, Lookbehind, Bang}
use Rattle.lp_types.specs.declared.texts.Kind.TheVariants as kind
use Rattle.lp_types.specs.Reading.{Reading, ◌>>=◌, give, fail, where_next, expected, taken, text, passed, chained, next_place, seen_text}
use Rattle.lp_reading.specs.Literals.{taken_value}

-- `@L`, `@R` or `!`
unfoldable pub sign : Reading PlainKind
sign =
    where_next Lookahead (give plain.Lookahead)
    (where_next Lookbehind (give plain.Lookbehind)
    (where_next Bang (give plain.Error) fail))

abbrev pub value_or_sign : Option (List ℕ) → Reading PlainKind
value_or_sign (Some value) = give (plain.Terminal value)
value_or_sign None = sign

-- a string literal, or a sign
unfoldable pub literal_or_sign : Reading PlainKind
literal_or_sign = taken_value >>= value_or_sign

abbrev pub name_or_other : Option (List ℕ) → Reading PlainKind
name_or_other (Some name) = give (plain.Name name)
name_or_other None = literal_or_sign

-- what a symbol stands for: a name, a string literal, `@L`, `@R` or `!`
unfoldable pub symbol_kind : Reading PlainKind
symbol_kind = taken kind.Id >>= name_or_other

-- a symbol itself, bound to this name
unfoldable pub bound_to : List ℕ → Reading PlainSymbol
bound_to name = next_place >>= λ at. symbol_kind >>= λ k. give (record { name = name; kind = k; place = at })

-- a symbol alone, which binds `_`
unfoldable pub bare_symbol : Reading PlainSymbol
bare_symbol = bound_to (codes "_")

abbrev pub bound_name : Bool → List ℕ → List ℕ
bound_name true name = codes "mut " ++ name
bound_name false name = name

-- `name`, or `mut name`, as the pattern that is printed
unfoldable pub binding : Reading (List ℕ)
binding = passed Mut >>= λ mutable. text kind.Id >>= λ name. give (bound_name mutable name)

-- what follows the `<` of `<name:symbol>` or `<mut name:symbol>`
unfoldable pub named_symbol : Reading PlainSymbol
named_symbol = binding >>= λ name. expected Colon >>= λ _. bound_to name >>= λ s. expected GreaterThan >>= λ _. give s

-- a symbol, which may be bound to a name
unfoldable pub symbol : Reading PlainSymbol
symbol = where_next LessThan named_symbol bare_symbol

abbrev pub is_absent : Option (List ℕ) → Reading Bool
is_absent (Some code) = give false
is_absent None = give true

-- whether no `=>?` comes next
unfoldable pub no_fallible : Reading Bool
no_fallible = seen_text kind.FallibleCode >>= is_absent

abbrev pub no_code : Option (List ℕ) → Reading Bool
no_code (Some code) = give false
no_code None = no_fallible

-- whether no arrow comes next
unfoldable pub more_symbols : Reading Bool
more_symbols = seen_text kind.Code >>= no_code

-- a symbol, and whether another one follows: no arrow does
unfoldable pub linked_symbol : Reading (PlainSymbol × Bool)
linked_symbol = symbol >>= λ s. more_symbols >>= λ more. give (s, more)

-- what follows the `(` of `()`
unfoldable pub no_symbols : Reading (List PlainSymbol)
no_symbols = expected RightParen >>= λ _. give []

-- `()`, or symbols, at least one, up to an arrow
unfoldable pub symbols : Reading (List PlainSymbol)
symbols = where_next LeftParen no_symbols (chained linked_symbol)

abbrev pub fallible_code : Option (List ℕ) → Reading (Bool × List ℕ)
fallible_code (Some code) = give (true, code)
fallible_code None = fail

-- `=>?` and its code
unfoldable pub fallible_arrow : Reading (Bool × List ℕ)
fallible_arrow = taken kind.FallibleCode >>= fallible_code

abbrev pub plain_code : Option (List ℕ) → Reading (Bool × List ℕ)
plain_code (Some code) = give (false, code)
plain_code None = fallible_arrow

-- an arrow with its code: whether it is `=>?`, and the code
unfoldable pub arrow : Reading (Bool × List ℕ)
arrow = taken kind.Code >>= plain_code

-- an alternative: symbols, an arrow and its code, without blanks around it
unfoldable pub alternative : Reading PlainAlternative
alternative = symbols >>= λ found. arrow >>= λ tail. give (record { symbols = found; fallible = tail.0; code = trim tail.1 })
