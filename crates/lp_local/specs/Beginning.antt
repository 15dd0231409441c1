-- Texts that begin alike, and where a line ends.
use Rattle.std.specs.Prelude.{◌≡◌, ℕ, Bool, ◌||◌, ◌==◌, nat_eq, List, [], ◌∷◌, length, codes}
use Rattle.std.specs.List.{starts_with}

-- two texts begin with the same character, or both are empty
abbrev pub BeginsAs : List ℕ → List ℕ → Type 0
BeginsAs [] [] = Unit {0}
BeginsAs [] (d ∷ b) = ⊥
BeginsAs (c ∷ a) [] = ⊥
BeginsAs (c ∷ a) (d ∷ b) = c ≡ d

-- nothing, or a line feed in front
abbrev pub is_line_end : List ℕ → Bool
is_line_end text = (length text == 0) || starts_with nat_eq text (codes "\n")
