-- The values of string literals.
use Rattle.std.specs.Prelude.{ℕ, ◌+◌, ◌-◌, ◌==◌, List, [], ◌∷◌, Option, Some, None, if◌then◌else◌, length, zero, suc, encode_utf8_all}
use Rattle.std.specs.Str.{chars}
use Rattle.lp_repr.specs.declared.values.ParseError.TheVariants.{User}
use Rattle.lp_tok.specs.declared.tok.ErrorCode.{ErrorCode}
use Rattle.lp_tok.specs.declared.escapes.EscapeError.{EscapeError}
use Rattle.lp_tok.specs.declared.escapes.EscapeError.TheVariants as escapes
use Rattle.lp_tok.specs.Escapes.{Escaped, Stands, Fault, escape}
use Rattle.lp_tok.specs.Signs.{backslash}
use Rattle.lp_tok.specs.Tokens.{place}
use Rattle.lp_types.specs.declared.error.PlainError.{PlainError}
use Rattle.lp_types.specs.declared.error.PlainError.TheVariants.{Parse, Memory}
use Rattle.lp_types.specs.declared.texts.Kind.TheVariants as kind
use Rattle.lp_types.specs.Reading.{Reading, Fails, ◌>>=◌, give, taken, next_stop}

-- the characters that a literal's inside stands for, or an error and what is left at its place
pub data Value : Type 0 where
  Means : List ℕ → Value
  Wrong : ErrorCode → List ℕ → Value

abbrev pub with_char : ℕ → Value → Value
with_char c (Means cs) = Means (c ∷ cs)
with_char c (Wrong code at) = Wrong code at

-- an escape, and then what `rest` tells of the others
abbrev pub from_escape : (List ℕ → Value) → Escaped → Value
from_escape rest (Stands c cs) = with_char c (rest cs)
from_escape rest (Fault code at) = Wrong code at

-- what at most so many characters and escapes stand for
abbrev pub value_within : ℕ → List ℕ → Value
value_within zero cs = Means []
value_within (suc n) [] = Means []
value_within (suc n) (c ∷ cs) = if c == backslash then from_escape (value_within n) (escape (c ∷ cs) cs) else with_char c (value_within n cs)

-- what a literal's inside stands for
unfoldable pub value_of : List ℕ → Value
value_of inside = value_within (length (chars inside)) (chars inside)

-- the value of a literal whose inside ends at the byte `end`, or the error of its escapes
abbrev pub value_or_fault : ℕ → Value → Reading (Option (List ℕ))
value_or_fault end (Means cs) = give (Some (encode_utf8_all cs))
value_or_fault end (Wrong code at) = λ ts. Fails (User (record { location = place end at; code = code }))

-- the error of a literal's escapes
abbrev pub error_of : EscapeError → PlainError
error_of (escapes.Bad e) = Parse (User e)
error_of escapes.Memory = Memory

-- where a literal's inside begins: a quote ends the token
abbrev pub inside_place : ℕ → List ℕ → ℕ
inside_place stop inside = stop - 1 - length inside

-- the value of a literal with this inside, whose token ends at `stop`
unfoldable pub value_read : ℕ → List ℕ → Reading (Option (List ℕ))
value_read stop inside = value_or_fault (length inside + inside_place stop inside) (value_of inside)

abbrev pub value_if : ℕ → Option (List ℕ) → Reading (Option (List ℕ))
value_if stop None = give None
value_if stop (Some inside) = value_read stop inside

-- the value of a string literal, its escapes applied, if one comes
unfoldable pub taken_value : Reading (Option (List ℕ))
taken_value = next_stop >>= λ stop. taken kind.StringLiteral >>= value_if stop
