use Rattle.std.proofs.Common.{ℕ, ◌≡◌, ◌<◌, ◌≤◌, length, get_or}
use Rattle.lp_state_parts.specs.Gotos.{range_counts}
use Rattle.lp_state_parts.proofs.gotos.catch_all.Given as goal

abbrev pub invariant-loop-place : goal.invariant-loop-place
invariant-loop-place l = record {
  within : l.best < length l.arms;
  count : l.most ≡ get_or (range_counts l.arms) l.best 0;
  most : (k : ℕ) → k < l.place → get_or (range_counts l.arms) k 0 ≤ l.most;
  first : (k : ℕ) → k < l.best → get_or (range_counts l.arms) k 0 < l.most;
}
