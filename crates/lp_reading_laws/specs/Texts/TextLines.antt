-- The lines of a text that count, without the blanks in front.
use Rattle.std.specs.Prelude.{◌≡◌, ℕ, ◌<◌, List, [], ◌∷◌, length}
use Rattle.lp_spelling.specs.Counting.{settled, front_line, behind_line}
use Rattle.lp_program.specs.Begins.{Lines}

-- none is left; or the next one, and those of the text behind it
pub data HasLines : List ℕ → Lines → Type 0 where
  no_line : (text : List ℕ) → settled text ≡ [] → HasLines text []
  one_line : (text : List ℕ) (lines : Lines) → 0 < length (settled text) → HasLines (behind_line (settled text)) lines → HasLines text (front_line (settled text) ∷ lines)
