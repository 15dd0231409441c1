-- A sink that counts.
use Rattle.std.specs.Prelude.{ℕ, Option, Some, None, if◌then◌else◌, nat_lt}
use Rattle.lp_write.specs.Sinks.{greatest, Told}

-- the number that a counting sink tells: its total, below the greatest
abbrev pub number : ℕ → Option ℕ
number total = if nat_lt total greatest then Some total else None

-- what a counting sink tells: no bytes, and no faults
abbrev pub told_of : ℕ → Told
told_of total = record { held = None; taken = number total; faults = 0 }
