-- A loop that writes a line for each element of a list.
use Rattle.std.proofs.Common.{◌≡◌, ℕ, ◌+◌, ◌<◌, List, [], ◌∷◌, ◌++◌, length, map, get_or, take, drop, sym, ap, ◌∙◌}
use Rattle.std.proofs.lemmas.List.{take_more, map-append, take-append-drop}
use Rattle.lp_write.specs.Lines.{Line}
use Rattle.lp_write.specs.Writes.{Writing, AppendsAll, AppendsPart, Faults}
use Rattle.lp_write.proofs.Writing.{all-then, all-part, writes-then, faults-more}
use Rattle.lp_write.specs.Writes.Ending.{faulted}

-- the lines so far, and the next one
map-more : {X : Type 0} (f : X → Line) (xs : List X) (i : ℕ) (x : X) → x ≡ get_or xs i x → i < length xs →
    map f (take (i + 1) xs) ≡ map f (take i xs) ++ f x ∷ []
map-more f xs i x e h =
    ap (map f) (take_more xs i x h) ∙ map-append f (take i xs) (get_or xs i x ∷ [])
    ∙ ap (λ y. map f (take i xs) ++ f y ∷ []) (sym e)

-- all lines, cut after the next one
map-cut : {X : Type 0} (f : X → Line) (xs : List X) (i : ℕ) (x : X) → x ≡ get_or xs i x → i < length xs →
    map f xs ≡ (map f (take i xs) ++ f x ∷ []) ++ map f (drop (i + 1) xs)
map-cut f xs i x e h =
    ap (map f) (sym (take-append-drop (i + 1) xs)) ∙ map-append f (take (i + 1) xs) (drop (i + 1) xs)
    ∙ ap (λ r. r ++ map f (drop (i + 1) xs)) (map-more f xs i x e h)

-- the next line was written
pub each-more : {X : Type 0} (f : X → Line) (xs : List X) (i : ℕ) (x : X) (a b c : Writing) → x ≡ get_or xs i x → i < length xs →
    AppendsAll a b (map f (take i xs)) → AppendsAll b c (f x ∷ []) → AppendsAll a c (map f (take (i + 1) xs))
each-more f xs i x a b c e h p q = rw (map-more f xs i x e h) (all-then a b c _ _ p q)

-- a fault ended the next line
pub each-faults : {X : Type 0} (f : X → Line) (xs : List X) (i : ℕ) (x : X) (a b c : Writing) → x ≡ get_or xs i x → i < length xs →
    AppendsAll a b (map f (take i xs)) → Faults b c (f x ∷ []) → Faults a c (map f xs)
each-faults f xs i x a b c e h p q =
    rw (map-cut f xs i x e h) (faults-more a c _ _ (writes-then faulted a b c _ _ p q))

-- memory was wanting before the next line
pub each-part : {X : Type 0} (f : X → Line) (xs : List X) (i : ℕ) (a b : Writing) →
    AppendsAll a b (map f (take i xs)) → AppendsPart a b (map f xs)
each-part f xs i a b p =
    rw (sym (ap (map f) (take-append-drop i xs)) ∙ map-append f (take i xs) (drop i xs)) (all-part a b _ _ p)
