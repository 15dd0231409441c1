-- Numbers are compared by their highest words first.
use Rattle.std.proofs.Common.{◌≡◌, ℕ, suc, ◌+◌, ◌*◌, ◌/◌, ◌%◌, ◌^◌, ◌<◌, ◌≤◌, sym, ap, ◌∙◌, ⊎_elim, arith}
use Rattle.std.proofs.Math.Nat.{le-div_iff_mul-le, lt-div-mul-add}
use Rattle.std.proofs.lemmas.Bool.{cases_lt}
use Rattle.std.proofs.lemmas.Bool.Decides.{nat_tests}
use Rattle.std.proofs.lemmas.Nat.{shr-shr, shr_split, pow_pos}
use Rattle.std.specs.Ordering.{nat_cmp}
use Rattle.std.specs.declared.cmp.Ordering.TheVariants.{Less, Equal, Greater}

less : (x y : ℕ) → x < y → nat_cmp x y ≡ Less
less x y h = grind (arith, nat_tests)

greater : (x y : ℕ) → y < x → nat_cmp x y ≡ Greater
greater x y h = grind (arith, nat_tests)

equal : (x y : ℕ) → nat_cmp x y ≡ Equal → x ≡ y
equal x y h = grind (arith, nat_tests)

tied : (x y : ℕ) → x ≡ y → nat_cmp x y ≡ Equal
tied x y h = grind (arith, nat_tests)

below_from_quotients : (a b k : ℕ) → 0 < k → a / k < b / k → a < b
below_from_quotients a b k p l =
    let h : suc (a / k) * k ≤ b = (le-div_iff_mul-le p).0 l in
    let g : a < a / k * k + k = lt-div-mul-add p in
    omega arith

-- the quotient at one place, from that at the next and the word between
split_at : (a m u : ℕ) → u ≡ a / 2 ^ m % 2 ^ 64 → a / 2 ^ m ≡ a / 2 ^ (m + 64) * 2 ^ 64 + u
split_at a m u e =
    sym (shr_split (a / 2 ^ m) 64) ∙ ap (λ (q : ℕ). q * 2 ^ 64 + a / 2 ^ m % 2 ^ 64) (shr-shr a m 64) ∙ ap (λ (r : ℕ). a / 2 ^ (m + 64) * 2 ^ 64 + r) (sym e)

module _ (a b m u v : ℕ) (left : u ≡ a / 2 ^ m % 2 ^ 64) (right : v ≡ b / 2 ^ m % 2 ^ 64) (high : a / 2 ^ (m + 64) ≡ b / 2 ^ (m + 64)) where
  -- the words are the same
  pub same_words : nat_cmp u v ≡ Equal → a / 2 ^ m ≡ b / 2 ^ m
  same_words e = omega (arith, equal u v e, split_at a m u left, split_at b m v right)

  words_below : u < v → nat_cmp u v ≡ nat_cmp a b
  words_below l = less u v l ∙ sym (less a b (below_from_quotients a b (2 ^ m) (pow_pos m) (omega (arith, split_at a m u left, split_at b m v right))))

  words_above : v < u → nat_cmp u v ≡ nat_cmp a b
  words_above l = greater u v l ∙ sym (greater a b (below_from_quotients b a (2 ^ m) (pow_pos m) (omega (arith, split_at a m u left, split_at b m v right))))

  -- they decide
  pub other_words : (nat_cmp u v ≡ Equal → ⊥) → nat_cmp u v ≡ nat_cmp a b
  other_words differ =
      ⊎_elim (λ (l : u < v). words_below l) (λ (l : v ≤ u). ⊎_elim (λ (g : v < u). words_above g) (λ (g : u ≤ v). absurd (differ (tied u v (omega arith)))) (cases_lt v u)) (cases_lt u v)
