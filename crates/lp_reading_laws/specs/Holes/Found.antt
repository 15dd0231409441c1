-- Lines that read as exactly the holes that they were printed with.
use Rattle.std.specs.Prelude.{◌≡◌, ℕ, ◌<◌, ◌≤◌, Bool, List, [], ◌∷◌, length, get_or, take, Some}
use Rattle.std.specs.List.{list_all}
use Rattle.lp_form.specs.Templates.{Piece, holes_of}
use Rattle.lp_form.specs.Templates as template
use Rattle.lp_form.specs.declared.part.Part.{Part}
use Rattle.lp_form.specs.declared.template.Kind.{Kind}
use Rattle.lp_spelling.specs.Lines.{line_of}
use Rattle.lp_spelling.specs.HoleEnds.{is_word}
use Rattle.lp_spelling.specs.Fillings.{Fills}
use Rattle.lp_spelling.specs.LineReading.{kind_of, line_at}
use Rattle.lp_spelling.specs.LineHoles.{known_in}

-- bytes of words alone
abbrev pub are_words : List ℕ → Bool
are_words text = list_all is_word text

-- the holes of a part, those of its lines in front: each holds what it may
pub record AreFilled (prefix : List ℕ) (p : Part) (holes : List (List ℕ)) : Type 0 where
  pub count : length (holes_of p) ≤ length holes
  pub fills : (k : ℕ) → k < length (holes_of p) → Fills prefix (kind_of (holes_of p) k) (get_or holes k [])

-- where n holes are known before a line, it reads as those that are known behind it
abbrev pub LineFound : List ℕ → List Kind → List (List ℕ) → ℕ → List Piece → Type 0
LineFound prefix kinds holes n pieces = line_at prefix kinds pieces (take n holes) (line_of prefix holes pieces) ≡ Some (take (known_in pieces n) holes)

-- all lines of the steps, one after another
unfoldable pub LinesFound : List ℕ → List Kind → List (List ℕ) → ℕ → List template.Line → Type 0
LinesFound prefix kinds holes n [] = Unit {0}
LinesFound prefix kinds holes n (s ∷ steps) = LineFound prefix kinds holes n s.1 × LinesFound prefix kinds holes (known_in s.1 n) steps

-- how many holes are known behind the lines of steps
abbrev pub known_behind : List template.Line → ℕ → ℕ
known_behind [] n = n
known_behind (s ∷ steps) n = known_behind steps (known_in s.1 n)

-- the lines of steps are the same under two lists of holes
unfoldable pub SameLines : List ℕ → List (List ℕ) → List (List ℕ) → List template.Line → Type 0
SameLines prefix holes others [] = Unit {0}
SameLines prefix holes others (s ∷ steps) = (line_of prefix holes s.1 ≡ line_of prefix others s.1) × SameLines prefix holes others steps
