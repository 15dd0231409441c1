-- Texts whose first lines are the same.
use Rattle.std.specs.Prelude.{◌≡◌, ℕ, zero, suc, ◌-◌, ◌==◌, if◌then◌else◌, List, [], ◌∷◌}
use Rattle.lp_spelling.specs.Counting.{feeds}

-- the first n lines of a text, each with the line feed that ends it
unfoldable pub first_lines : ℕ → List ℕ → List ℕ
first_lines n [] = []
first_lines zero (b ∷ t) = []
first_lines (suc n) (b ∷ t) = b ∷ first_lines (if b == 10 then n else suc n) t

-- the first n lines of two texts are the same
abbrev pub Agree : ℕ → List ℕ → List ℕ → Type 0
Agree n a b = first_lines n a ≡ first_lines n b

-- how many lines of a text end before the place where this rest of it is left
abbrev pub lines_before : List ℕ → List ℕ → ℕ
lines_before text rest = feeds text - feeds rest
