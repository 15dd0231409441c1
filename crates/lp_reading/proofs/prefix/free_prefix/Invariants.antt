use Rattle.std.proofs.Common.{◌≡◌, suc}
use Rattle.std.specs.Prelude.{string_bytes}
use Rattle.lp_reading.specs.Prefixes.{underscores}
use Rattle.lp_reading.proofs.prefix.free_prefix.Given as goal

-- the `_` so far
abbrev pub invariant-loop-turn : goal.invariant-loop-turn
invariant-loop-turn l = string_bytes l.prefix ≡ underscores (suc l.turn)
