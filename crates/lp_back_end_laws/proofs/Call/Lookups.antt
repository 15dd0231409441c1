-- Elements of parts of lists.
use Rattle.std.proofs.Common.{◌≡◌, ℕ, zero, suc, ◌+◌, ◌<◌, List, [], ◌∷◌, take, drop, slice_get, refl, ap, arith}

module _ {A : Type 0} where
  pub get_taken : (xs : List A) (n i : ℕ) → i < n → slice_get (take n xs) i ≡ slice_get xs i
  get_taken xs zero i h = absurd (omega arith)
  get_taken [] (suc n) i h = refl
  get_taken (x ∷ xs) (suc n) zero h = refl
  get_taken (x ∷ xs) (suc n) (suc i) h = get_taken xs n i (omega arith)

  pub get_dropped : (xs : List A) (n i k : ℕ) → n + i ≡ k → slice_get (drop n xs) i ≡ slice_get xs k
  get_dropped xs zero i k e = ap (slice_get xs) (omega (arith, e))
  get_dropped [] (suc n) i k e = refl
  get_dropped (x ∷ xs) (suc n) i zero e = absurd (omega arith)
  get_dropped (x ∷ xs) (suc n) i (suc k) e = get_dropped xs n i k (omega arith)
