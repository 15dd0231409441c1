-- What the bytes of a text spell, and why they spell no plain grammar.
use Rattle.std.specs.Prelude.{◌≡◌, ◌⊎◌, ℕ, false, List, Ok, Err}
use Rattle.std.specs.Str.{IsUtf8, IsValidUpTo}
use Rattle.lp_repr.specs.declared.values.ParseError.{ParseError}
use Rattle.lp_syntax.specs.declared.plain.PlainGrammar.{PlainGrammar}
use Rattle.lp_tok.specs.declared.tok.Error.{Error}
use Rattle.lp_tok.specs.declared.tok.Tok.{Tok}
use Rattle.lp_types.specs.declared.error.PlainError.TheVariants.{Parse}
use Rattle.lp_types.specs.ErrorPlace.{error_place}
use Rattle.lp_types.specs.Spelled.{IsReading}
use Rattle.lp_reading.specs.declared.bytes.BytesFault.{BytesFault}
use Rattle.lp_reading.specs.declared.bytes.BytesFault.TheVariants as fault
use Rattle.lp_reading.specs.Grammars.{grammar, grammar_tree}
use Rattle.lp_reading.specs.Prefixes.{IsFreePrefix}

-- the bytes are a text that spells this plain grammar, with its prefix
pub record IsPlainOf (bytes : List ℕ) (g : PlainGrammar) : Type 0 where
  pub text : IsUtf8 bytes
  pub file : IsReading grammar_tree grammar bytes 0 (Ok g)
  pub prefix : IsFreePrefix bytes g.prefix
  pub lalr : g.algorithm.lalr ≡ false

-- the bytes are a text that spells no plain grammar, by the error at this place
pub record IsUnread (bytes : List ℕ) (place : ℕ) : Type 0 where
  pub error : ParseError ℕ Tok Error
  pub text : IsUtf8 bytes
  pub file : IsReading grammar_tree grammar bytes 0 (Err (Parse error))
  pub at : place ≡ error_place error

-- the bytes spell no plain grammar: from this place on they are no text, or they are one that spells none
abbrev pub HasNoPlain : List ℕ → ℕ → Type 0
HasNoPlain bytes place = IsValidUpTo bytes place ⊎ IsUnread bytes place

-- what a fault tells of the bytes
abbrev pub IsBytesFault : List ℕ → BytesFault → Type 0
IsBytesFault bytes (fault.Grammar place) = HasNoPlain bytes place
IsBytesFault bytes fault.Memory = Unit {0}
