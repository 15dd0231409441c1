-- What holds of all elements of lists.
use Rattle.std.proofs.Common.{ℕ, ◌<◌, zero, suc, List, [], ◌∷◌, ◌++◌, length, get_or, flat_map, arith}
use Rattle.std.specs.List.{AllByRecursion}

pub all_left : {X : Type 0} (P : X → Type 0) (xs ys : List X) → AllByRecursion P (xs ++ ys) → AllByRecursion P xs
all_left P [] ys h = tt
all_left P (x ∷ xs) ys h = (h.0, all_left P xs ys h.1)

pub all_right : {X : Type 0} (P : X → Type 0) (xs ys : List X) → AllByRecursion P (xs ++ ys) → AllByRecursion P ys
all_right P [] ys h = h
all_right P (x ∷ xs) ys h = all_right P xs ys h.1

pub all_both : {X : Type 0} (P : X → Type 0) (xs ys : List X) → AllByRecursion P xs → AllByRecursion P ys → AllByRecursion P (xs ++ ys)
all_both P [] ys h k = k
all_both P (x ∷ xs) ys h k = (h.0, all_both P xs ys h.1 k)

pub all_if : {X : Type 0} (P Q : X → Type 0) (xs : List X) → ((x : X) → P x → Q x) → AllByRecursion P xs → AllByRecursion Q xs
all_if P Q [] f h = tt
all_if P Q (x ∷ xs) f h = (f x h.0, all_if P Q xs f h.1)

-- of lists that are joined
pub all_of_flat : {X Y : Type 0} (P : Y → Type 0) (f : X → List Y) (xs : List X) → AllByRecursion P (flat_map f xs) → AllByRecursion (λ x. AllByRecursion P (f x)) xs
all_of_flat P f [] h = tt
all_of_flat P f (x ∷ xs) h = (all_left P (f x) (flat_map f xs) h, all_of_flat P f xs (all_right P (f x) (flat_map f xs) h))

pub all_to_flat : {X Y : Type 0} (P : Y → Type 0) (f : X → List Y) (xs : List X) → AllByRecursion (λ x. AllByRecursion P (f x)) xs → AllByRecursion P (flat_map f xs)
all_to_flat P f [] h = tt
all_to_flat P f (x ∷ xs) h = all_both P (f x) (flat_map f xs) h.0 (all_to_flat P f xs h.1)

pub holds_at : {X : Type 0} (P : X → Type 0) (xs : List X) (i : ℕ) (d : X) → AllByRecursion P xs → i < length xs → P (get_or xs i d)
holds_at P [] i d h lt = absurd (omega arith)
holds_at P (x ∷ xs) zero d h lt = h.0
holds_at P (x ∷ xs) (suc i) d h lt = holds_at P xs i d h.1 (omega arith)
