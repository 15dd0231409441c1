-- The least of some places.
use Rattle.std.specs.Prelude.{ℕ, min, List, [], ◌∷◌, Option, None, Some}

-- the lesser of two places, of those that there are
abbrev pub least : Option ℕ → Option ℕ → Option ℕ
least None second = second
least (Some first) None = Some first
least (Some first) (Some second) = Some (min first second)

-- the least of these places, none where there are none
abbrev pub least_of : List ℕ → Option ℕ
least_of [] = None
least_of (place ∷ places) = least (Some place) (least_of places)
