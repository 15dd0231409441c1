-- Things that stand twice.
use Rattle.std.specs.Prelude.{Bool, List, [], ◌∷◌, ◌++◌, if◌then◌else◌}
use Rattle.std.specs.List.{list_any}

-- those of these things that are the same as one before them, where these were there before
abbrev pub repeats_after : {X : Type 0} → (X → X → Bool) → List X → List X → List X
repeats_after same seen [] = []
repeats_after same seen (x ∷ xs) = (if list_any (λ y. same y x) seen then x ∷ [] else []) ++ repeats_after same (seen ++ x ∷ []) xs

-- those of these things that are the same as one before them
abbrev pub repeats : {X : Type 0} → (X → X → Bool) → List X → List X
repeats same xs = repeats_after same [] xs
