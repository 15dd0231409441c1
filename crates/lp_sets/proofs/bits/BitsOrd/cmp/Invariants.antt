use Rattle.std.proofs.Common.{◌≡◌, ◌*◌, ◌/◌, ◌^◌}
use Rattle.lp_sets.proofs.bits.BitsOrd.cmp.Given as goal

-- the words from the place on are the same
abbrev pub invariant-loop-place : goal.invariant-loop-place
invariant-loop-place l = l.self / 2 ^ (64 * l.place) ≡ l.other / 2 ^ (64 * l.place)

abbrev pub decreases-loop-place : goal.decreases-loop-place
decreases-loop-place l = l.place
