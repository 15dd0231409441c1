-- Texts that stand on one line, from its first character that is no blank on.
use Rattle.std.specs.Prelude.{◌≡◌, ℕ, ◌-◌, Bool, true, false, List, length, slice_index}
use Rattle.std.specs.Char.{is_whitespace}
use Rattle.std.specs.List.{list_all}
use Rattle.std.specs.Str.{IsUtf8, chars}
use Rattle.lp_texts.specs.OneLine.{begins}
use Rattle.lp_write.specs.Lines.{Line, opens}
use Rattle.lp_write.specs.Lines.Line.{line, verbatim}
use Rattle.lp_spelling.specs.Counting.{is_text, is_skipped}

-- no line feed
abbrev pub is_on_line : List ℕ → Bool
is_on_line text = list_all is_text text

-- a text of a line: no line feed, and no blank in front
pub record IsLineText (text : List ℕ) : Type 0 where
  pub utf8 : IsUtf8 text
  pub on_line : is_on_line text ≡ true
  pub shown : begins is_whitespace (chars text) ≡ false

-- one that counts, or doesn't: empty, or a comment
abbrev pub Counts : List ℕ → Type 0
Counts text = IsLineText text × (is_skipped text ≡ false)

abbrev pub IsSkipped : List ℕ → Type 0
IsSkipped text = IsLineText text × (is_skipped text ≡ true)

-- an opening bracket at its end, which raises the indent of the lines behind
abbrev pub ends_open : List ℕ → Bool
ends_open text = opens (slice_index text (length text - 1))

-- the text of a line
abbrev pub text_in : Line → List ℕ
text_in (line text) = text
text_in (verbatim text) = text
