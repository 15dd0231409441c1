-- The wrong bytes of a text of one line, and of a pattern.
use Rattle.std.specs.Prelude.{◌≡◌, ℕ, ◌==◌, Bool, true, false, not, ◌&&◌, ◌||◌, List, [], ◌∷◌, length, drop, Some, IsTrue, slice_get}
use Rattle.std.specs.Str.{chars}
use Rattle.std.specs.Char.{is_whitespace}
use Rattle.lp_tok.specs.Signs.{line_feed, slash, star, comma, semicolon}
use Rattle.lp_texts.specs.Quotes.{piece, Unended}
use Rattle.lp_texts.specs.Brackets.{closes, Leads}

abbrev pub carriage_return : ℕ
carriage_return = 13

abbrev pub bar : ℕ
bar = 124

abbrev pub ends_line : ℕ → Bool
ends_line c = (c == line_feed) || (c == carriage_return)

-- a list begins with such an element
abbrev pub begins : (ℕ → Bool) → List ℕ → Bool
begins test [] = false
begins test (c ∷ cs) = test c

-- the front of a comment, with what follows its first byte
abbrev pub begins_comment : ℕ → List ℕ → Bool
begins_comment c cs = (c == slash) && begins (λ d. (d == slash) || (d == star)) cs

-- a byte that may stand in brackets alone: `;`, and in a pattern `,` and `|`
abbrev pub needs_bracket : Bool → ℕ → Bool
needs_bracket pattern c = (c == semicolon) || (pattern && ((c == comma) || (c == bar)))

abbrev pub is_none_open : List ℕ → Bool
is_none_open [] = true
is_none_open (c ∷ brackets) = false

-- the byte c may not stand outside quotes, with these brackets open there and cs behind it
abbrev pub is_wrong : Bool → List ℕ → ℕ → List ℕ → Bool
is_wrong pattern brackets c cs =
    begins_comment c cs
    || ((needs_bracket pattern c && is_none_open brackets)
    || (closes c && not (begins (λ d. d == c) brackets)))

-- the byte i of a text is wrong, or, at the text's length, what is left open
pub data IsWrong (pattern : Bool) (text : List ℕ) (i : ℕ) : Type 0 where
  blank : i ≡ 0 → IsTrue (begins is_whitespace (chars text)) → IsWrong pattern text i
  line_end : (c : ℕ) → slice_get text i ≡ Some c → IsTrue (ends_line c) → IsWrong pattern text i
  outside : (c : ℕ) (cs brackets : List ℕ) → drop i text ≡ c ∷ cs → Leads text [] (c ∷ cs) brackets → IsTrue (is_wrong pattern brackets c cs) → IsWrong pattern text i
  open_quote : (rest brackets : List ℕ) → i ≡ length text → Leads text [] rest brackets → piece rest ≡ Unended → IsWrong pattern text i
  open_bracket : (c : ℕ) (brackets : List ℕ) → i ≡ length text → Leads text [] [] (c ∷ brackets) → IsWrong pattern text i

-- a text of one line has no wrong byte
abbrev pub IsOneLine : List ℕ → Type 0
IsOneLine text = (i : ℕ) → ¬ IsWrong false text i
