-- The tokens that are left to a reader, and how they end.
use Rattle.std.specs.Prelude.{ℕ, Bool, true, false, List, [], ◌∷◌, Option, Some, None, suc}
use Rattle.lp_repr.specs.declared.values.ParseError.{ParseError}
use Rattle.lp_repr.specs.declared.values.ParseError.TheVariants.{InvalidToken, UnrecognizedEof, UnrecognizedToken, ExtraToken, User}
use Rattle.lp_tok.specs.declared.tok.Tok.{Tok}
use Rattle.lp_tok.specs.declared.tok.Error.{Error}
use Rattle.lp_types.specs.declared.reader.Reader.{Reader}
use Rattle.lp_types.specs.Marks.{Mark, mark_of}

-- tokens, each between the places of its first byte and after its last one; they end with the text or
-- with an error
pub data Left : Type 0 where
  token : ℕ → Mark → ℕ → Left → Left
  ends : ℕ → Left
  breaks : Error → Left

abbrev pub left_of : List (ℕ × Tok × ℕ) → Option Error → ℕ → Left
left_of [] None end = ends end
left_of [] (Some e) end = breaks e
left_of (x ∷ xs) error end = token x.0 (mark_of x.1) x.2 (left_of xs error end)

-- the tokens that are left to a reader
abbrev pub left : Reader → Left
left r = left_of r.rest.now r.error r.end

-- the place of the next token, or the one where the tokens end
abbrev pub place : Left → ℕ
place (token from t to rest) = from
place (ends n) = n
place (breaks e) = e.location

-- where the next token ends, or where the tokens end
abbrev pub stop : Left → ℕ
stop (token from t to rest) = to
stop (ends n) = n
stop (breaks e) = e.location

-- an error of reading, with the bytes of its token
abbrev pub Fault : Type 0
Fault = ParseError ℕ Mark Error

abbrev pub fault_of : ParseError ℕ Tok Error → Fault
fault_of (InvalidToken location) = InvalidToken location
fault_of (UnrecognizedEof location expected) = UnrecognizedEof location expected
fault_of (UnrecognizedToken t expected) = UnrecognizedToken (t.0, mark_of t.1, t.2) expected
fault_of (ExtraToken t) = ExtraToken (t.0, mark_of t.1, t.2)
fault_of (User e) = User e

-- the error of a token that goes on nothing
abbrev pub unrecognized : ℕ → Mark → ℕ → Fault
unrecognized from t to = UnrecognizedToken (from, t, to) []

-- the error where the next token goes on nothing: that token, the end of the text, or the error that ends the
-- tokens
abbrev pub failure : Left → Fault
failure (token from t to rest) = unrecognized from t to
failure (ends n) = UnrecognizedEof n []
failure (breaks e) = User e

-- nothing is left
abbrev pub is_end : Left → Bool
is_end (token from t to rest) = false
is_end (ends n) = true
is_end (breaks e) = false

-- the next token
abbrev pub next : Left → Option Mark
next (token from t to rest) = Some t
next (ends n) = None
next (breaks e) = None

-- what follows the next token
abbrev pub after : Left → Left
after (token from t to rest) = rest
after (ends n) = ends n
after (breaks e) = breaks e

-- how many tokens are left
abbrev pub size : Left → ℕ
size (token from t to rest) = suc (size rest)
size (ends n) = 0
size (breaks e) = 0
