-- The holes of the patterns so far are few.
use Rattle.std.proofs.Common.{◌<◌, ◌^◌, length, take}
use Rattle.std.specs.Prelude.{All}
use Rattle.lp_emit.proofs.counted.see_holes.Given as goal

abbrev pub invariant-loop-pattern : goal.invariant-loop-pattern
invariant-loop-pattern l = All (λ p. length p.now.holes < 2 ^ 63) (take l.pattern-index l.patterns)
