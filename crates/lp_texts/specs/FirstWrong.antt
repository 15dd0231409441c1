-- The first wrong byte of a text.
use Rattle.std.specs.Prelude.{ℕ, ◌<◌, min, Option, Some, None}

-- the first of the places that are wrong, or none where no place is
abbrev pub IsFirst : (ℕ → Type 0) → Option ℕ → Type 0
IsFirst Wrong None = (i : ℕ) → ¬ Wrong i
IsFirst Wrong (Some i) = Wrong i × ((j : ℕ) → j < i → ¬ Wrong j)

-- the lesser of two places, of those that there are
abbrev pub least : Option ℕ → Option ℕ → Option ℕ
least None second = second
least (Some first) None = Some first
least (Some first) (Some second) = Some (min first second)
