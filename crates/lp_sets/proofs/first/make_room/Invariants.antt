use Rattle.std.proofs.Common.{◌≡◌, ℕ, ◌+◌, ◌-◌, get_or, vec_len}
use Rattle.lp_sets.proofs.first.make_room.Given as goal

abbrev pub invariant-loop-alloc : goal.invariant-loop-alloc
invariant-loop-alloc l = (n : ℕ) → get_or l.sets.items n 0 ≡ get_or l.initial.sets.items n 0

abbrev pub decreases-loop-alloc : goal.decreases-loop-alloc
decreases-loop-alloc l = l.place + 1 - vec_len l.sets
