-- Words, keywords, regex literals and the first piece of a grammar file.
use Rattle.std.specs.Prelude.{ℕ, ◌==◌, ◌||◌, List, [], ◌∷◌, Option, Some, None, if◌then◌else◌, is_some, codes}
use Rattle.std.specs.Str.{bytes_eq}
use Rattle.std.specs.Char.{is_whitespace}
use Rattle.lp_tok.specs.declared.tok.ErrorCode.TheVariants.{UnrecognizedToken, UnterminatedEscape, UnterminatedStringLiteral, ExpectedStringLiteral}
use Rattle.lp_tok.specs.declared.tok.Tok.TheVariants.{DotDot, MinusGreaterThan, TildeTilde, Underscore}
use Rattle.lp_tok.specs.declared.piece.Texted.{Texted}
use Rattle.lp_tok.specs.declared.piece.Texted.TheVariants as text
use Rattle.lp_tok.specs.Signs.{bang, quote, hash, apostrophe, minus, dot, slash, colon, less, equals, greater, at_sign, backquote, letter_r, tilde}
use Rattle.lp_tok.specs.Scans.{starts_word, after_word, from_char, from_unescaped, past, hashes, after_hashes, RawEnd, raw_end}
use Rattle.lp_tok.specs.Token.{Token, Symbol, Text}
use Rattle.lp_tok.specs.Words.{symbol, keyword}
use Rattle.lp_tok.specs.Pieces.{Piece, Gap, Whole, Cut, Fault, Nothing, text_between, pair_piece, bang_piece, colon_piece, at_piece, equals_piece, quoted_piece, lifetime_piece, attribute_end, hash_piece, slash_piece}

-- a word that `<` follows at once is a macro's name
abbrev pub word_kind : List ℕ → Texted
word_kind end = if is_some (past less end) then text.MacroId else text.Id

-- a word that is no keyword
unfoldable pub plain_word : List ℕ → List ℕ → Piece
plain_word w end =
    if bytes_eq w (codes "_") || bytes_eq w (codes "r#_") then Whole (Symbol Underscore) end
    else Whole (Text (word_kind end) w) end

-- a keyword or another word
abbrev pub known_word : Option Token → List ℕ → List ℕ → Piece
known_word None w end = plain_word w end
known_word (Some token) w end = Whole token end

-- a word; `use` takes the cut that follows it
unfoldable pub word_piece : List ℕ → List ℕ → Piece
word_piece w end = if bytes_eq w (codes "use") then Cut text.Use end else known_word (keyword w) w end

-- a regex literal
abbrev pub regex_literal : List ℕ → List ℕ → Option RawEnd → Piece
regex_literal start inside None = Fault UnterminatedStringLiteral start
regex_literal start inside (Some e) = Whole (Text text.RegexLiteral (text_between inside e.from_quote)) e.after

-- what follows `r` and n hashes: a regex literal or a word
unfoldable pub regex_piece : List ℕ → ℕ → List ℕ → Piece
regex_piece start n [] = Fault UnterminatedStringLiteral start
regex_piece start n (c ∷ cs) =
    if c == quote then regex_literal start cs (raw_end n cs)
    else (if starts_word c then plain_word (text_between start (after_word cs)) (after_word cs)
    else Fault ExpectedStringLiteral (c ∷ cs))

-- what follows `r`
unfoldable pub r_piece : List ℕ → List ℕ → Piece
r_piece start [] = word_piece (text_between start []) []
r_piece start (c ∷ cs) =
    if (c == quote) || (c == hash) then regex_piece start (hashes (c ∷ cs)) (after_hashes (c ∷ cs))
    else word_piece (text_between start (after_word (c ∷ cs))) (after_word (c ∷ cs))

-- a word, a regex literal or a blank, else the character begins nothing
unfoldable pub word_or_blank : List ℕ → ℕ → List ℕ → Piece
word_or_blank start c cs =
    if c == letter_r then r_piece start cs
    else (if starts_word c then word_piece (text_between start (after_word cs)) (after_word cs)
    else (if is_whitespace c then Gap cs
    else Fault UnrecognizedToken start))

-- a piece whose first character opens a text
unfoldable pub opened_piece : List ℕ → ℕ → List ℕ → Piece
opened_piece start c cs =
    if c == backquote then quoted_piece text.Escape UnterminatedEscape start cs (from_char backquote cs)
    else (if c == quote then quoted_piece text.StringLiteral UnterminatedStringLiteral start cs (from_unescaped quote cs)
    else (if c == apostrophe then lifetime_piece start cs
    else (if c == hash then hash_piece cs (attribute_end cs)
    else (if c == slash then slash_piece start cs
    else word_or_blank start c cs))))

-- a piece that may be longer than its first character
unfoldable pub longer_piece : List ℕ → ℕ → List ℕ → Piece
longer_piece start c cs =
    if c == bang then bang_piece cs
    else (if c == colon then colon_piece cs
    else (if c == equals then equals_piece start cs
    else (if c == at_sign then at_piece start cs
    else (if c == dot then pair_piece start (Symbol DotDot) (past dot cs)
    else (if c == tilde then pair_piece start (Symbol TildeTilde) (past tilde cs)
    else (if c == minus then pair_piece start (Symbol MinusGreaterThan) (past greater cs)
    else opened_piece start c cs))))))

-- a symbol of one character, or another piece
abbrev pub symbol_piece : Option Token → List ℕ → ℕ → List ℕ → Piece
symbol_piece None start c cs = longer_piece start c cs
symbol_piece (Some token) start c cs = Whole token cs

-- the first piece
unfoldable pub first_piece : List ℕ → Piece
first_piece [] = Nothing
first_piece (c ∷ cs) = symbol_piece (symbol c) (c ∷ cs) c cs
