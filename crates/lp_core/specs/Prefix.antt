-- Calls that others begin with.
use Rattle.std.specs.Prelude.{◌≡◌, List, ◌++◌}
use Rattle.lp_core.specs.Store.{UserCall}

abbrev pub IsPrefix : List UserCall → List UserCall → Type 0
IsPrefix c d = (e : List UserCall) × (d ≡ c ++ e)
