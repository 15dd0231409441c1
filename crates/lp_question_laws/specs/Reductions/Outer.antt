-- The names that the lines of a reduction bind, and all others.
use Rattle.std.specs.Prelude.{◌≡◌, ℕ, ◌<◌, ◌^◌, false, List, ◌++◌, codes, decimal}
use Rattle.std.specs.Str.{bytes_eq}
use Rattle.lp_core.specs.Val.{Val}
use Rattle.lp_maker.specs.Slots.{Names}
use Rattle.lp_code_laws.specs.Slots.Shows.{Shows, Keeps}

-- a popped symbol's name
abbrev pub sym_name : ℕ → List ℕ
sym_name k = codes "~sym" ++ decimal k

-- no line of a reduction binds this name
pub record IsOuter (q : List ℕ) : Type 0 where
  pub no_symbol : (i : ℕ) → i < 2 ^ 64 → bytes_eq (sym_name i) q ≡ false
  pub no_start : bytes_eq (codes "~start") q ≡ false
  pub no_end : bytes_eq (codes "~end") q ≡ false
  pub no_value : bytes_eq (codes "~nt") q ≡ false

-- a name that lines of a reduction bind
abbrev pub IsInner : List ℕ → Type 0
IsInner name = (q : List ℕ) → IsOuter q → bytes_eq name q ≡ false

-- the slots that were given out before hold the same, and names that no line binds show the same
pub record Lasts (old : Names) (before : List Val) (names : Names) (env : List Val) : Type 0 where
  pub keeps : Keeps old.next before env
  pub shown : (q : List ℕ) (v : Val) → IsOuter q → Shows old before q v → Shows names env q v
