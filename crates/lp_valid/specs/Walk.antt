-- A walk over actions that marks those it reached and keeps those that wait to be looked at.
use Rattle.std.specs.Prelude.{◌≡◌, ◌⊎◌, ℕ, ◌<◌, Bool, true, false, List, length, slice_index_or}
use Rattle.std.specs.List.{Contains}
use Rattle.lp_valid.specs.declared.circles.Reached.{Reached}

-- the action of this number is marked
abbrev pub is_marked : Reached → ℕ → Bool
is_marked s k = slice_index_or s.reached.items k false

-- it waits
abbrev pub Waits : Reached → ℕ → Type 0
Waits s k = Contains s.work.items k

-- a step marked these, and those that it newly marked wait
pub record Marks (before after : Reached) (these : List ℕ) : Type 0 where
  pub size : length after.reached.items ≡ length before.reached.items
  pub kept : (k : ℕ) → is_marked before k ≡ true → is_marked after k ≡ true
  pub marked : (k : ℕ) → Contains these k → k < length before.reached.items → is_marked after k ≡ true
  pub only : (k : ℕ) → is_marked after k ≡ true → (is_marked before k ≡ true) ⊎ (Contains these k × Waits after k)
  pub waiting : (k : ℕ) → Waits before k → Waits after k
  pub waits : (k : ℕ) → Waits after k → Waits before k ⊎ Contains these k
