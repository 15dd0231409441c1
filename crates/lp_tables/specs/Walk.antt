-- A walk over nonterminals that marks those it opened and keeps those that wait to be looked at.
use Rattle.std.specs.Prelude.{◌≡◌, ◌⊎◌, ℕ, ◌<◌, Bool, true, false, [], length, slice_index_or}
use Rattle.std.specs.List.{Contains}
use Rattle.lp_tables.specs.declared.opened.Opened.{Opened}

-- the nonterminal of this number is marked
abbrev pub is_opened : Opened → ℕ → Bool
is_opened s k = slice_index_or s.opened.items k false

-- it waits
abbrev pub Waits : Opened → ℕ → Type 0
Waits s k = Contains s.work.items k

-- of so many nonterminals none is marked
pub record IsFresh (count : ℕ) (s : Opened) : Type 0 where
  pub size : length s.opened.items ≡ count
  pub none : (k : ℕ) → is_opened s k ≡ false
  pub empty : s.work.items ≡ []

-- all that are marked wait
pub record AllWait (s : Opened) : Type 0 where
  pub waits : (k : ℕ) → is_opened s k ≡ true → Waits s k
  pub marked : (k : ℕ) → Waits s k → is_opened s k ≡ true

-- a step marked these, and those that it newly marked wait
pub record Marks (before after : Opened) (These : ℕ → Type 0) : Type 0 where
  pub size : length after.opened.items ≡ length before.opened.items
  pub kept : (k : ℕ) → is_opened before k ≡ true → is_opened after k ≡ true
  pub marked : (k : ℕ) → These k → k < length before.opened.items → is_opened after k ≡ true
  pub only : (k : ℕ) → is_opened after k ≡ true → (is_opened before k ≡ true) ⊎ (These k × Waits after k)
  pub waiting : (k : ℕ) → Waits before k → Waits after k
  pub waits : (k : ℕ) → Waits after k → Waits before k ⊎ (These k × (is_opened after k ≡ true))
