-- Every way to choose one of each of some options.
use Rattle.std.specs.Prelude.{List, [], ◌∷◌, map}
use Rattle.std.specs.List.{flat_map}

-- the first slowest
abbrev pub choices : {X : Type 0} → List (List X) → List (List X)
choices [] = [] ∷ []
choices (options ∷ rest) = flat_map (λ x. map (λ xs. x ∷ xs) (choices rest)) options
