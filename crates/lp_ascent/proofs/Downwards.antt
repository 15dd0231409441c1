-- The numbers below one, the greatest first.
use Rattle.std.proofs.Common.{◌≡◌, ℕ, zero, suc, ◌-◌, ◌<◌, ◌≤◌, List, [], ◌∷◌, refl, ap, sym, arith}
use Rattle.lp_ascent.specs.StateLines.{downwards}

pub downwards_next : (n : ℕ) → 0 < n → downwards n ≡ (n - 1) ∷ downwards (n - 1)
downwards_next zero h = absurd (omega arith)
downwards_next (suc n) h = let e : suc n - 1 ≡ n = omega arith in ap (λ (k : ℕ). k ∷ downwards k) (sym e)

pub downwards_none : (n : ℕ) → n ≤ 0 → downwards n ≡ []
downwards_none zero h = refl
downwards_none (suc n) h = absurd (omega arith)
