-- The slots so far.
use Rattle.std.proofs.Common.{◌≡◌}
use Rattle.lp_ascent_bodies.specs.AscentErrors.{other_slots}
use Rattle.lp_ascent_bodies.proofs.ascent_error.other_slots.Given as goal

abbrev pub invariant-loop-slot : goal.invariant-loop-slot
invariant-loop-slot l = l.all.items ≡ other_slots l.slot
