-- Texts that are empty, or end with a line feed.
use Rattle.std.proofs.Common.{◌≡◌, ℕ, ◌==◌, zero, suc, cond, inl, inr, ◌⊎◌, List, [], ◌∷◌, ◌++◌, refl, sym, ap, ◌∙◌, arith}
use Rattle.std.proofs.lemmas.Bool.{cases_Bool, cond-false, eqb-true}
use Rattle.lp_local.specs.Agreeing.{first_lines}
use Rattle.lp_local.proofs.Agreeing.{agree_nothing}

-- empty, or ended by a line feed
abbrev pub IsEnded : List ℕ → Type 0
IsEnded text = (text ≡ []) ⊎ ((front : List ℕ) × (text ≡ front ++ 10 ∷ []))

-- what is left of an ended text is ended
pub ended_behind : (a b : List ℕ) → IsEnded (a ++ b) → IsEnded b
ended_behind [] b h = h
ended_behind (c ∷ a) b (inl e) = absurd cc
ended_behind (c ∷ a) b (inr f) = ended_at c a b f.0 f.1
  where
    ended_at : (c : ℕ) (a b front : List ℕ) → c ∷ (a ++ b) ≡ front ++ 10 ∷ [] → IsEnded b
    ended_at c [] b [] e = let none : b ≡ [] = cc in inl none
    ended_at c (d ∷ a) b [] e = absurd cc
    ended_at c [] b (d ∷ front) e = let same : b ≡ front ++ 10 ∷ [] = cc in inr (front, same)
    ended_at c (x ∷ a) b (d ∷ front) e = let same : x ∷ (a ++ b) ≡ front ++ 10 ∷ [] = cc in ended_at x a b front same

none_first : (n : ℕ) (t : List ℕ) → first_lines (suc n) t ≡ [] → t ≡ []
unfolding first_lines
none_first n t e = agree_nothing (suc n) t (omega arith) (sym e)

ended_on : (b : ℕ) (x t : List ℕ) → (x ≡ [] → (b ≡ 10) ⊎ (t ≡ [])) → IsEnded x ⊎ (x ≡ t) → IsEnded (b ∷ x) ⊎ (b ∷ x ≡ b ∷ t)
ended_on b x t last (inl (inl e)) = elim (last e) [
  | inl ten ↦ inl (inr ([], ap (λ (c : ℕ). c ∷ x) ten ∙ ap (λ (y : List ℕ). 10 ∷ y) e))
  | inr none ↦ inr (ap (λ (y : List ℕ). b ∷ y) (e ∙ sym none))
]
ended_on b x t last (inl (inr f)) = inl (inr (b ∷ f.0, ap (λ (y : List ℕ). b ∷ y) f.1))
ended_on b x t last (inr e) = inr (ap (λ (y : List ℕ). b ∷ y) e)

-- the first lines of a text are ended, or all of it
pub lines_ended : (n : ℕ) (t : List ℕ) → IsEnded (first_lines n t) ⊎ (first_lines n t ≡ t)
unfolding first_lines
lines_ended n [] = inr refl
lines_ended zero (b ∷ t) = inl (inl refl)
lines_ended (suc n) (b ∷ t) =
    ended_on b (first_lines (cond (b == 10) n (suc n)) t) t (λ e. elim (cases_Bool (b == 10)) [
      | inl y ↦ inl (eqb-true b 10 y)
      | inr z ↦ inr (none_first n t (sym (ap (λ k. first_lines k t) (cond-false (b == 10) n (suc n) z)) ∙ e))
    ]) (lines_ended (cond (b == 10) n (suc n)) t)
