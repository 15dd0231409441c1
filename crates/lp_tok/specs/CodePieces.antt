-- The pieces of user code: strings, quoted characters, raw strings and words, comments, brackets, and
-- single characters.
use Rattle.std.specs.Prelude.{ℕ, ◌-◌, ◌==◌, ◌||◌, List, [], ◌∷◌, Option, Some, None, if◌then◌else◌}
use Rattle.lp_tok.specs.declared.tok.ErrorCode.{ErrorCode}
use Rattle.lp_tok.specs.declared.tok.ErrorCode.TheVariants.{UnterminatedStringLiteral, UnterminatedCharacterLiteral, ExpectedStringLiteral, UnterminatedBlockComment}
use Rattle.lp_tok.specs.declared.quoted.Kind.{Kind}
use Rattle.lp_tok.specs.declared.quoted.Kind.TheVariants.{Opening, Closing, Separating, Plain}
use Rattle.lp_tok.specs.Signs.{line_feed, quote, apostrophe, left_parenthesis, right_parenthesis, star, comma, slash, semicolon, left_bracket, backslash, right_bracket, letter_r, left_brace, right_brace}
use Rattle.lp_tok.specs.Scans.{starts_word, after_word, from_char, from_unescaped, past, past_any, hashes, after_hashes, RawEnd, raw_end, after_comment}

-- the first piece of a text and what follows it, an error and what is left at its place, or nothing
pub data Piece : Type 0 where
  Whole : Kind → List ℕ → Piece
  Fault : ErrorCode → List ℕ → Piece
  Nothing : Piece

-- what a single character does to the count of open brackets; `,` and `;` separate
abbrev pub kind_of : ℕ → Kind
kind_of c =
    if (c == left_parenthesis) || (c == left_bracket) || (c == left_brace) then Opening
    else (if (c == right_parenthesis) || (c == right_bracket) || (c == right_brace) then Closing
    else (if (c == comma) || (c == semicolon) then Separating
    else Plain))

-- a piece that counts no bracket, or has no end
abbrev pub ended : ErrorCode → List ℕ → Option (List ℕ) → Piece
ended code start None = Fault code start
ended code start (Some after) = Whole Plain after

-- what follows c, where c comes first, else all
abbrev pub past_maybe : ℕ → List ℕ → List ℕ
past_maybe c [] = []
past_maybe c (d ∷ cs) = if d == c then cs else (d ∷ cs)

-- what follows a quoted character, or nothing: after a `\` and one more character the next `'` ends it,
-- and else one character and a `'` that follows
abbrev pub after_quoted : List ℕ → List ℕ
after_quoted [] = []
after_quoted (c ∷ cs) = if c == backslash then past_any (from_char apostrophe (past_any cs)) else past_maybe apostrophe cs

-- a quoted character or a lifetime; something must follow it
abbrev pub quoted_piece : List ℕ → List ℕ → Piece
quoted_piece start [] = Fault UnterminatedCharacterLiteral start
quoted_piece start (c ∷ cs) = Whole Plain (c ∷ cs)

-- a raw string
abbrev pub raw_string_piece : List ℕ → Option RawEnd → Piece
raw_string_piece start None = Fault UnterminatedStringLiteral start
raw_string_piece start (Some e) = Whole Plain e.after

-- what follows `r` and n hashes; a raw string is closed by one hash fewer
abbrev pub hashed_piece : List ℕ → ℕ → List ℕ → Piece
hashed_piece start n [] = Fault UnterminatedStringLiteral start
hashed_piece start n (c ∷ cs) =
    if c == quote then raw_string_piece start (raw_end (n - 1) cs)
    else (if starts_word c then Whole Plain (after_word cs)
    else Fault ExpectedStringLiteral (c ∷ cs))

-- what follows `r`
abbrev pub raw_piece : List ℕ → Piece
raw_piece cs = if hashes cs == 0 then Whole Plain cs else hashed_piece cs (hashes cs) (after_hashes cs)

-- a comment, or a single `/`
abbrev pub slash_piece : List ℕ → List ℕ → Piece
slash_piece start [] = Whole Plain []
slash_piece start (c ∷ cs) =
    if c == slash then Whole Plain (from_char line_feed cs)
    else (if c == star then ended UnterminatedBlockComment start (after_comment 0 cs)
    else Whole Plain (c ∷ cs))

-- the first piece
abbrev pub code_piece : List ℕ → Piece
code_piece [] = Nothing
code_piece (c ∷ cs) =
    if c == quote then ended UnterminatedStringLiteral (c ∷ cs) (past quote (from_unescaped quote cs))
    else (if c == apostrophe then quoted_piece (c ∷ cs) (after_quoted cs)
    else (if c == letter_r then raw_piece cs
    else (if c == slash then slash_piece (c ∷ cs) cs
    else Whole (kind_of c) cs)))
