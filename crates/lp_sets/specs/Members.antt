-- Sets of numbers: a set is the number that has these bits.
use Rattle.std.specs.Prelude.{◌≡◌, ◌↔◌, ◌==◌, ℕ, Bool, ◌+◌, ◌*◌, ◌^◌, ◌<◌, ◌≤◌, List, [], ◌∷◌, length, AllPairs, Contains}
use Rattle.std.specs.Int.{bit_at}

-- the number stands in the set
abbrev pub Has : ℕ → ℕ → Type 0
Has set n = bit_at set n ≡ 1

-- the test of it
abbrev pub has : ℕ → ℕ → Bool
has set n = bit_at set n == 1

-- the number that words of 64 bits spell, the lowest first
abbrev pub spelled : List ℕ → ℕ
spelled [] = 0
spelled (w ∷ ws) = spelled ws * 2 ^ 64 + w

-- each has 64 bits
abbrev pub AreWords : List ℕ → Type 0
AreWords [] = Unit {0}
AreWords (w ∷ ws) = (w < 2 ^ 64) × AreWords ws

-- the same, and each of their bits has a number of 64 bits
abbrev pub AreNumberedWords : List ℕ → Type 0
AreNumberedWords ws = AreWords ws × (length ws ≤ 2 ^ 58)

-- the numbers of the set below a bound, in order
pub record ListsBelow (set bound : ℕ) (xs : List ℕ) : Type 0 where
  pub ordered : AllPairs (λ x y. x < y) xs
  pub exact : (n : ℕ) → Contains xs n ↔ ((n < bound) × Has set n)
