use Rattle.std.proofs.Common.{◌≡◌, ◌≤◌, drop, length}
use Rattle.lp_state_parts.specs.Gotos.{arms_of}
use Rattle.lp_state_parts.proofs.gotos.goto_arms.Given as goal

abbrev pub invariant-loop-place : goal.invariant-loop-place
invariant-loop-place l = (l.place ≤ length l.column) × (l.arms.items ≡ arms_of (drop l.place l.column))

abbrev pub decreases-loop-place : goal.decreases-loop-place
decreases-loop-place l = l.place
