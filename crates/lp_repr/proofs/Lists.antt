-- Elements of joined lists.
use Rattle.std.proofs.Common.{◌≡◌, ℕ, ◌+◌, ◌-◌, ◌<◌, ◌≤◌, zero, suc, List, [], ◌∷◌, ◌++◌, length, refl, arith, sym, ap, ◌∙◌, Option, Some, None}
use Rattle.std.specs.List.{slice_get}

-- an element of the first of two lists
pub slice_get_left : {X : Type 0} (xs ys : List X) (i : ℕ) → i < length xs → slice_get (xs ++ ys) i ≡ slice_get xs i
slice_get_left [] ys i h = absurd (omega arith)
slice_get_left (x ∷ xs) ys zero h = refl
slice_get_left (x ∷ xs) ys (suc i) h = slice_get_left xs ys i (omega arith)

-- an element of the second
pub slice_get_right : {X : Type 0} (xs ys : List X) (i : ℕ) → slice_get (xs ++ ys) (length xs + i) ≡ slice_get ys i
slice_get_right [] ys i = ap (slice_get ys) (omega arith)
slice_get_right (x ∷ xs) ys i =
    let e : length (x ∷ xs) + i ≡ suc (length xs + i) = omega arith in
    ap (slice_get (x ∷ (xs ++ ys))) e ∙ slice_get_right xs ys i

-- an element past the first
pub slice_get_past_left : {X : Type 0} (xs ys : List X) (i j : ℕ) → i ≡ j + length xs → slice_get (xs ++ ys) i ≡ slice_get ys j
slice_get_past_left xs ys i j e =
    let f : i ≡ length xs + j = omega arith in
    ap (slice_get (xs ++ ys)) f ∙ slice_get_right xs ys j
