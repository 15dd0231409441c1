-- The first place that passes a test, and the first of two.
use Rattle.std.proofs.Common.{◌≡◌, ℕ, ◌<◌, ◌≤◌, min, Bool, false, ◌⊎◌, inl, inr, ⊎_elim, Option, Some, None, IsTrue, sym, ◌∙◌, subst, arith}
use Rattle.std.proofs.lemmas.Bool.{false≢true, cases_lt}
use Rattle.lp_texts.specs.FirstWrong.{IsFirst, least}

-- no place passes below n, and none from there on
pub no_place : (test : ℕ → Bool) (n : ℕ) → ((j : ℕ) → j < n → IsTrue (test j) → ⊥) → ((j : ℕ) → n ≤ j → test j ≡ false) → IsFirst (λ i. IsTrue (test i)) None
no_place test n below behind i passes =
    ⊎_elim (λ less. below i less passes) (λ more. false≢true (sym (behind i more) ∙ passes)) (cases_lt i n)

-- below the first place of either, no place is one of both
either_first : (P Q : ℕ → Type 0) (i n : ℕ) → ((j : ℕ) → j < n → P j → ⊥) → ((j : ℕ) → j < i → Q j → ⊥) → i ≤ n → (j : ℕ) → j < i → P j ⊎ Q j → ⊥
either_first P Q i n p q le j less (inl x) = p j (omega arith) x
either_first P Q i n p q le j less (inr y) = q j less y

-- the first place of two kinds is the lesser of the first of each
pub first_of_both : (P Q : ℕ → Type 0) (a b : Option ℕ) → IsFirst P a → IsFirst Q b → IsFirst (λ i. P i ⊎ Q i) (least a b)
first_of_both P Q None None p q = λ i w. ⊎_elim (λ x. p i x) (λ y. q i y) w
first_of_both P Q None (Some y) p q = (inr q.0, λ j less w. either_first P Q y y (λ k h. p k) q.1 (omega arith) j less w)
first_of_both P Q (Some x) None p q = (inl p.0, λ j less w. either_first P Q x x p.1 (λ k h. q k) (omega arith) j less w)
first_of_both P Q (Some x) (Some y) p q =
    ⊎_elim
    (λ less. let same : min x y ≡ x = omega (arith, less) in
    subst (IsFirst (λ i. P i ⊎ Q i)) (some_same x (min x y) (sym same)) (inl p.0, λ j h w. either_first P Q x x p.1 (λ k l. q.1 k (omega (arith, l, less))) (omega arith) j h w))
    (λ more. let same : min x y ≡ y = omega (arith, more) in
    subst (IsFirst (λ i. P i ⊎ Q i)) (some_same y (min x y) (sym same)) (inr q.0, λ j h w. either_first P Q y x p.1 q.1 more j h w))
    (cases_lt x y)
  where
    some_same : (x y : ℕ) → x ≡ y → Some x ≡ Some y
    some_same x y e = cc
