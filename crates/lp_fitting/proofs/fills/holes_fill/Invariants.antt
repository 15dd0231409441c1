use Rattle.std.proofs.Common.{ℕ, ◌<◌, [], get_or, length}
use Rattle.std.specs.Str.{IsUtf8}
use Rattle.lp_spelling.specs.LineReading.{kind_of}
use Rattle.lp_fitting.specs.Fitting.{MayStand}
use Rattle.lp_fitting.proofs.fills.holes_fill.Given as goal

abbrev pub invariant-loop-k : goal.invariant-loop-k
invariant-loop-k l =
    (j : ℕ) → j < l.k →
    IsUtf8 (get_or l.holes j []) × (j < length l.kinds → MayStand l.prefix (kind_of l.kinds j) (get_or l.holes j []))
