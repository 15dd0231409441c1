-- What names hold, at a place of a run.
use Rattle.std.specs.Prelude.{◌≡◌, ℕ, ◌+◌, ◌<◌, ◌≤◌, List, ◌++◌, length, Some, slice_get}
use Rattle.lp_core.specs.Val.{Val}
use Rattle.lp_maker.specs.Slots.{Names, slot_of}

-- a name's slot holds a value
pub record Shows (names : Names) (env : List Val) (key : List ℕ) (v : Val) : Type 0 where
  pub slot : ℕ
  pub is : slot_of key names ≡ Some slot
  pub below : slot < names.next
  pub held : slice_get env slot ≡ Some v

-- so many slots can still be given out
pub record HasRoom (n : ℕ) (names : Names) (env : List Val) : Type 0 where
  pub room : names.next + n ≤ length env

-- the slots below a number hold the same
pub record Keeps (n : ℕ) (env after : List Val) : Type 0 where
  pub many : length after ≡ length env
  pub same : (i : ℕ) → i < n → slice_get after i ≡ slice_get env i

-- later names, that know all that these do
pub record Extends (names later : Names) : Type 0 where
  pub extra : List (List ℕ × ℕ)
  pub known : later.known ≡ names.known ++ extra
  pub next : names.next ≤ later.next
