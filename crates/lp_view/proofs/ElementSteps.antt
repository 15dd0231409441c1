-- The elements of a text, one after another.
use Rattle.std.proofs.Common.{◌≡◌, ℕ, zero, suc, ◌-◌, ◌<◌, ◌≤◌, List, [], ◌∷◌, length, refl, ap, arith}
use Rattle.lp_view.specs.Elements.{elements_within}

-- none are asked for, and none are there
pub none_left : (f g : List ℕ → List ℕ) (n : ℕ) (s : List ℕ) → n ≡ 0 → elements_within f g n s ≡ []
none_left f g zero s h = refl
none_left f g (suc n) s h = absurd (omega arith)

pub none_there : (f g : List ℕ → List ℕ) (n : ℕ) (s : List ℕ) → length s ≡ 0 → elements_within f g n s ≡ []
none_there f g zero s h = refl
none_there f g (suc n) [] h = refl
none_there f g (suc n) (b ∷ bs) h = absurd (omega arith)

-- the first, and those of what stands behind it
pub one_more : (f g : List ℕ → List ℕ) (n : ℕ) (s : List ℕ) → 0 < n → 0 < length s → elements_within f g n s ≡ f s ∷ elements_within f g (n - 1) (g s)
one_more f g zero s pos some = absurd (omega arith)
one_more f g (suc n) [] pos some = absurd (omega arith)
one_more f g (suc n) (b ∷ bs) pos some =
    let k : n ≡ suc n - 1 = omega arith in
    ap (λ m. f (b ∷ bs) ∷ elements_within f g m (g (b ∷ bs))) k

-- no more than are asked for
pub few : (f g : List ℕ → List ℕ) (n : ℕ) (s : List ℕ) → length (elements_within f g n s) ≤ n
few f g zero s = omega arith
few f g (suc n) [] = omega arith
few f g (suc n) (b ∷ bs) = omega (arith, few f g n (g (b ∷ bs)))
