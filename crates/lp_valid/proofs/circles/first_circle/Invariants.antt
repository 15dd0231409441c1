use Rattle.std.proofs.Common.{ℕ, ◌<◌}
use Rattle.lp_valid.specs.InlineRules.{Reaches}
use Rattle.lp_valid.proofs.circles.first_circle.Given as goal

abbrev pub invariant-loop-place : goal.invariant-loop-place
invariant-loop-place l = (k : ℕ) → k < l.place → ¬ Reaches l.actions k k
