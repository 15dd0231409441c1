-- The text that the inside of a string literal stands for.
use Rattle.std.specs.Prelude.{◌≡◌, ◌≢◌, ℕ, ◌+◌, ◌*◌, ◌==◌, ◌&&◌, nat_lt, List, [], ◌∷◌, if◌then◌else◌, length, encode_utf8_all, ⊤}
use Rattle.std.specs.Str.{chars}
use Rattle.std.specs.Char.{digit_value}
use Rattle.std.specs.declared.borrow.CowStr.{CowStr}
use Rattle.std.specs.declared.borrow.CowStr.TheVariants as text
use Rattle.lp_tok.specs.declared.tok.ErrorCode.{ErrorCode}
use Rattle.lp_tok.specs.declared.tok.ErrorCode.TheVariants.{UnterminatedAsciiEscape, UnrecognizedEscape}
use Rattle.lp_tok.specs.declared.escapes.EscapeError.{EscapeError}
use Rattle.lp_tok.specs.declared.escapes.EscapeError.TheVariants.{Bad, Memory}
use Rattle.lp_tok.specs.Signs.{quote, backslash}
use Rattle.lp_tok.specs.Tokens.{place}

-- an escape: the character that it stands for and what follows it, or an error and what is left at its
-- place
pub data Escaped : Type 0 where
  Stands : ℕ → List ℕ → Escaped
  Fault : ErrorCode → List ℕ → Escaped

-- an octal and a hexadecimal digit after the `x` at `start`
abbrev pub ascii_escape : List ℕ → List ℕ → Escaped
ascii_escape start [] = Fault UnterminatedAsciiEscape start
ascii_escape start (high ∷ []) = Fault UnterminatedAsciiEscape (high ∷ [])
ascii_escape start (high ∷ low ∷ cs) =
    if nat_lt (digit_value high) 8 && nat_lt (digit_value low) 16 then Stands (digit_value high * 16 + digit_value low) cs
    else Fault UnrecognizedEscape start

-- the escape whose `\` is at `start`: `\\`, `\"`, `\n`, `\r`, `\t`, `\0`, or `\x` and two digits
abbrev pub escape : List ℕ → List ℕ → Escaped
escape start [] = Fault UnrecognizedEscape start
escape start (c ∷ cs) =
    if c == backslash then Stands backslash cs
    else (if c == quote then Stands quote cs
    else (if c == 110 then Stands 10 cs
    else (if c == 114 then Stands 13 cs
    else (if c == 116 then Stands 9 cs
    else (if c == 48 then Stands 0 cs
    else (if c == 120 then ascii_escape (c ∷ cs) cs
    else Fault UnrecognizedEscape (c ∷ cs)))))))

-- a text stands for another: each escape for its character, each other character for itself
pub data StandsFor : List ℕ → List ℕ → Type 0 where
  stands_none : StandsFor [] []
  stands_plain : (c : ℕ) (cs out : List ℕ) → c ≢ backslash → StandsFor cs out → StandsFor (c ∷ cs) (c ∷ out)
  stands_escape : (c : ℕ) (cs rest out : List ℕ) → escape (backslash ∷ cs) cs ≡ Stands c rest → StandsFor rest out → StandsFor (backslash ∷ cs) (c ∷ out)

-- an escape of a text is none, all before it being fine: the error, and what is left at its place
pub data FailsWith : List ℕ → ErrorCode → List ℕ → Type 0 where
  fails_here : (cs at : List ℕ) (code : ErrorCode) → escape (backslash ∷ cs) cs ≡ Fault code at → FailsWith (backslash ∷ cs) code at
  fails_plain : (c : ℕ) (cs at : List ℕ) (code : ErrorCode) → c ≢ backslash → FailsWith cs code at → FailsWith (c ∷ cs) code at
  fails_escape : (c : ℕ) (cs rest at : List ℕ) (code : ErrorCode) → escape (backslash ∷ cs) cs ≡ Stands c rest → FailsWith rest code at → FailsWith (backslash ∷ cs) code at

-- characters stand for the characters of a text
abbrev pub StandsForText : List ℕ → List ℕ → Type 0
StandsForText cs value = (out : List ℕ) × StandsFor cs out × (value ≡ encode_utf8_all out)

-- the error of characters that end at the byte `end`
abbrev pub IsFaultOfChars : List ℕ → ℕ → EscapeError → Type 0
IsFaultOfChars cs end (Bad e) = (at : List ℕ) × FailsWith cs e.code at × (e.location ≡ place end at)
IsFaultOfChars cs end Memory = ⊤

-- the value of a string literal's inside
abbrev pub IsValueOf : List ℕ → List ℕ → Type 0
IsValueOf code value = StandsForText (chars code) value

-- the error of a string literal's inside, whose first byte is at the place idx0
abbrev pub IsFaultOf : List ℕ → ℕ → EscapeError → Type 0
IsFaultOf code idx0 e = IsFaultOfChars (chars code) (length code + idx0) e

module _ {A : Type 0} where
  -- the text is a part of the input
  abbrev pub IsBorrowed : CowStr A → Type 0
  IsBorrowed (text.Borrowed t) = ⊤
  IsBorrowed (text.Owned t) = ⊥
