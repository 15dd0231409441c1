-- The numbers from one to before another.
use Rattle.std.proofs.Common.{◌≡◌, ℕ, suc, ◌+◌, ◌-◌, ◌<◌, ◌≤◌, Bool, List, [], ◌∷◌, ◌++◌, filter, ap, ◌∙◌, arith, if◌then◌else◌}
use Rattle.std.specs.List.{range_with_len}
use Rattle.std.proofs.lemmas.List.Elements.{filter-append}

pub range_next : (n m : ℕ) → n < m → range_with_len n (m - n) ≡ n ∷ range_with_len (n + 1) (m - (n + 1))
range_next n m h = let e : m - n ≡ suc (m - (n + 1)) = omega arith in ap (range_with_len n) e

pub range_none : (n m : ℕ) → m ≤ n → range_with_len n (m - n) ≡ []
range_none n m h = let e : m - n ≡ 0 = omega arith in ap (range_with_len n) e

pub filter_next :
    (p : ℕ → Bool) (n m : ℕ) → n < m →
    filter p (range_with_len n (m - n)) ≡ (if p n then n ∷ [] else []) ++ filter p (range_with_len (n + 1) (m - (n + 1)))
filter_next p n m h = ap (filter p) (range_next n m h) ∙ filter-append p (n ∷ []) (range_with_len (n + 1) (m - (n + 1)))
