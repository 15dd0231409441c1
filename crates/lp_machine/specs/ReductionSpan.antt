-- Where a reduction stands.
use Rattle.std.specs.Prelude.{ℕ, ◌-◌, List, length, take, drop, Option, Some, None, slice_get}
use Rattle.lp_repr.specs.declared.values.Loc.{Loc}
use Rattle.lp_repr.specs.declared.values.Loc.TheVariants.{Default}
use Rattle.lp_driver.specs.Values.{Spanned}
use Rattle.lp_driver.specs.DriverState.{last_of}
use Rattle.lp_driver.specs.RecoveryTurns.{start_or, end_or}

-- the symbols that a reduction of n takes off, and those below
abbrev pub popped : {A : Type 0} → ℕ → List A → List A
popped n xs = drop (length xs - n) xs

abbrev pub below : {A : Type 0} → ℕ → List A → List A
below n xs = take (length xs - n) xs

-- where an empty reduction stands: at the lookahead, else after the top symbol, else nowhere
abbrev pub empty_place : {A : Type 0} → Option Loc → List (Spanned A) → Loc
empty_place (Some at) symbols = at
empty_place None symbols = end_or (last_of symbols) Default

-- from the first of the symbols to the last, and an empty reduction at its place
abbrev pub span : {A : Type 0} → List (Spanned A) → Loc → Loc × Loc
span symbols empty = (start_or (slice_get symbols 0) empty, end_or (last_of symbols) empty)
