-- What stands at the front of a grammar file: a token, a gap, or an error. Each definition takes the
-- characters from the token's start on, where an error may need that place, and those that are left.
use Rattle.std.specs.Prelude.{ℕ, ◌-◌, ◌==◌, List, [], ◌∷◌, length, take, Option, Some, None, if◌then◌else◌, option_and_then, encode_utf8_all}
use Rattle.lp_tok.specs.declared.tok.ErrorCode.{ErrorCode}
use Rattle.lp_tok.specs.declared.tok.ErrorCode.TheVariants.{UnrecognizedToken, UnterminatedCharacterLiteral, UnterminatedCode, UnterminatedBlockComment}
use Rattle.lp_tok.specs.declared.tok.Tok.TheVariants.{BangEquals, BangTilde, Bang, Colon, ColonColon, Equals, EqualsEquals, EqualsGreaterThanLookahead, EqualsGreaterThanLookbehind, Hash, Lookahead, Lookbehind}
use Rattle.lp_tok.specs.declared.piece.Texted.{Texted}
use Rattle.lp_tok.specs.declared.piece.Texted.TheVariants as text
use Rattle.lp_tok.specs.Signs.{line_feed, bang, apostrophe, star, slash, colon, equals, greater, question, at_sign, letter_L, letter_R, left_bracket, tilde}
use Rattle.lp_tok.specs.Scans.{starts_word, after_word, from_char, from_unescaped, past, past_any, after_comment, after_attribute, NoString}
use Rattle.lp_tok.specs.Token.{Token, Symbol, Text}

-- a blank or a comment and what follows it; a token and what follows it; an attribute, what is left at its
-- end, and what is read next; a token that ends with its cut, and where that begins; an error and what is
-- left at its place; or nothing
pub data Piece : Type 0 where
  Gap : List ℕ → Piece
  Whole : Token → List ℕ → Piece
  Attribute : List ℕ → List ℕ → Piece
  Cut : Texted → List ℕ → Piece
  Fault : ErrorCode → List ℕ → Piece
  Nothing : Piece

-- the bytes of the characters between two places
abbrev pub text_between : List ℕ → List ℕ → List ℕ
text_between from to = encode_utf8_all (take (length from - length to) from)

-- a token that a further character completes
abbrev pub pair_piece : List ℕ → Token → Option (List ℕ) → Piece
pair_piece start token None = Fault UnrecognizedToken start
pair_piece start token (Some after) = Whole token after

-- `!=`, `!~` or `!`
abbrev pub bang_piece : List ℕ → Piece
bang_piece [] = Whole (Symbol Bang) []
bang_piece (c ∷ cs) =
    if c == equals then Whole (Symbol BangEquals) cs
    else (if c == tilde then Whole (Symbol BangTilde) cs
    else Whole (Symbol Bang) (c ∷ cs))

-- `::` or `:`
abbrev pub colon_piece : List ℕ → Piece
colon_piece [] = Whole (Symbol Colon) []
colon_piece (c ∷ cs) = if c == colon then Whole (Symbol ColonColon) cs else Whole (Symbol Colon) (c ∷ cs)

-- `@L` or `@R`
abbrev pub at_piece : List ℕ → List ℕ → Piece
at_piece start [] = Fault UnrecognizedToken start
at_piece start (c ∷ cs) =
    if c == letter_L then Whole (Symbol Lookahead) cs
    else (if c == letter_R then Whole (Symbol Lookbehind) cs
    else Fault UnrecognizedToken start)

-- `=>@L` or `=>@R`
abbrev pub arrow_at_piece : List ℕ → List ℕ → Piece
arrow_at_piece start [] = Fault UnrecognizedToken start
arrow_at_piece start (c ∷ cs) =
    if c == letter_L then Whole (Symbol EqualsGreaterThanLookahead) cs
    else (if c == letter_R then Whole (Symbol EqualsGreaterThanLookbehind) cs
    else Fault UnrecognizedToken start)

-- what follows `=>`: `@`, `?` and a cut, or a cut
abbrev pub arrow_piece : List ℕ → List ℕ → Piece
arrow_piece start [] = Fault UnterminatedCode start
arrow_piece start (c ∷ cs) =
    if c == at_sign then arrow_at_piece start cs
    else (if c == question then Cut text.EqualsGreaterThanQuestionCode cs
    else Cut text.EqualsGreaterThanCode (c ∷ cs))

-- `==`, `=>` or `=`
abbrev pub equals_piece : List ℕ → List ℕ → Piece
equals_piece start [] = Whole (Symbol Equals) []
equals_piece start (c ∷ cs) =
    if c == equals then Whole (Symbol EqualsEquals) cs
    else (if c == greater then arrow_piece start cs
    else Whole (Symbol Equals) (c ∷ cs))

-- a text up to its closing quote, which `end` begins with
abbrev pub quoted_piece : Texted → ErrorCode → List ℕ → List ℕ → List ℕ → Piece
quoted_piece kind code start inside [] = Fault code start
quoted_piece kind code start inside (q ∷ after) = Whole (Text kind (text_between inside (q ∷ after))) after

-- a lifetime, or a character literal where a further `'` follows the word
abbrev pub lifetime_or_word : List ℕ → List ℕ → List ℕ → Option (List ℕ) → Piece
lifetime_or_word start inside end None = Whole (Text text.Lifetime (text_between start end)) end
lifetime_or_word start inside end (Some after) = Whole (Text text.CharLiteral (text_between inside end)) after

-- what follows a `'`
abbrev pub lifetime_piece : List ℕ → List ℕ → Piece
lifetime_piece start [] = Fault UnterminatedCharacterLiteral start
lifetime_piece start (c ∷ cs) =
    if starts_word c then lifetime_or_word start (c ∷ cs) (after_word cs) (past apostrophe (after_word cs))
    else quoted_piece text.CharLiteral UnterminatedCharacterLiteral start (c ∷ cs) (from_unescaped apostrophe (c ∷ cs))

-- what follows the attribute of a `#`
abbrev pub attribute_end : List ℕ → Option (List ℕ)
attribute_end cs = option_and_then (λ after. option_and_then (after_attribute NoString 0) (past left_bracket after)) (past bang cs)

-- an attribute, which swallows the character after it, or `#`
abbrev pub hash_piece : List ℕ → Option (List ℕ) → Piece
hash_piece next None = Whole (Symbol Hash) next
hash_piece next (Some end) = Attribute end (past_any end)

-- a block comment
abbrev pub comment_piece : List ℕ → Option (List ℕ) → Piece
comment_piece start None = Fault UnterminatedBlockComment start
comment_piece start (Some after) = Gap after

-- a comment
abbrev pub slash_piece : List ℕ → List ℕ → Piece
slash_piece start [] = Fault UnrecognizedToken start
slash_piece start (c ∷ cs) =
    if c == slash then Gap (from_char line_feed cs)
    else (if c == star then comment_piece start (after_comment 0 cs)
    else Fault UnrecognizedToken start)
