use Rattle.std.proofs.Common.{ℕ, ◌<◌}
use Rattle.lp_emitted.specs.Emittable.{IsTabled}
use Rattle.lp_emit.proofs.checks.check_lists.Given as goal

abbrev pub invariant-loop-start : goal.invariant-loop-start
invariant-loop-start l = (k : ℕ) → k < l.start → IsTabled l.grammar l.states k
