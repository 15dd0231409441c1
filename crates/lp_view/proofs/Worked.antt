-- Worked examples of elements and patterns.
use Rattle.std.proofs.Common.{◌≡◌, [], ◌∷◌, codes, refl}
use Rattle.lp_view.specs.Elements.{elements, patterns}

ranges : elements (codes " | ") (codes "0 | 2..=4") ≡ codes "0" ∷ codes "2..=4" ∷ []
ranges = refl

-- names that each have a separator behind them
names : elements (codes ", ") (codes "a, b, ") ≡ codes "a" ∷ codes "b" ∷ []
names = refl

-- an element between two separators may be empty
empty_one : elements (codes ", ") (codes "a, , b") ≡ codes "a" ∷ [] ∷ codes "b" ∷ []
empty_one = refl

none : elements (codes ", ") [] ≡ []
none = refl

-- a bar in brackets parts nothing
two_patterns : patterns (codes "(1 | 2) | x") ≡ codes "(1 | 2)" ∷ codes "x" ∷ []
two_patterns = refl
