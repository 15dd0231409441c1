-- Quotes: strings and quoted characters, in the bytes of a text.
use Rattle.std.specs.Prelude.{ℕ, Bool, ◌==◌, ◌&&◌, nat_le, nat_lt, List, [], ◌∷◌, Option, Some, None, if◌then◌else◌}
use Rattle.lp_tok.specs.Signs.{quote, apostrophe, backslash}
use Rattle.lp_tok.specs.Scans.{from_char, from_unescaped, past}

-- what stands at the front of a text: a quote and what follows it, a quote without an end, a single byte and
-- what follows it, or nothing
pub data Piece : Type 0 where
  Quote : List ℕ → Piece
  Unended : Piece
  Single : ℕ → List ℕ → Piece
  Nothing : Piece

-- a byte of a character behind its first
abbrev pub goes_on : ℕ → Bool
goes_on c = nat_le 128 c && nat_lt c 192

-- what follows a character, behind its first byte
abbrev pub after_character : List ℕ → List ℕ
after_character [] = []
after_character (c ∷ cs) = if goes_on c then after_character cs else (c ∷ cs)

-- a quote, and what follows its end, if it has one
abbrev pub quote_piece : Option (List ℕ) → Piece
quote_piece None = Unended
quote_piece (Some after) = Quote after

-- a quoted character, where a `'` stands behind it; else the `'` before it stands alone
abbrev pub character_piece : List ℕ → Option (List ℕ) → Piece
character_piece cs None = Single apostrophe cs
character_piece cs (Some after) = Quote after

-- what a `'` begins: with a `\` behind it a quote up to the next `'`, else a quoted character or none
abbrev pub apostrophe_piece : List ℕ → Piece
apostrophe_piece [] = Single apostrophe []
apostrophe_piece (c ∷ cs) =
    if c == backslash then quote_piece (past apostrophe (from_char apostrophe cs))
    else character_piece (c ∷ cs) (past apostrophe (after_character cs))

-- the first piece: a string goes up to the next `"` that no `\` escapes
abbrev pub piece : List ℕ → Piece
piece [] = Nothing
piece (c ∷ cs) =
    if c == quote then quote_piece (past quote (from_unescaped quote cs))
    else (if c == apostrophe then apostrophe_piece cs
    else Single c cs)
