use Rattle.std.proofs.Common.{ℕ, ◌<◌}
use Rattle.lp_valid.specs.InlineRules.{RunsLesser}
use Rattle.lp_valid.proofs.circles.all_run_lesser.Given as goal

abbrev pub invariant-loop-place : goal.invariant-loop-place
invariant-loop-place l = (k : ℕ) → k < l.place → RunsLesser l.actions k
