-- The names so far, and those to come.
use Rattle.std.proofs.Common.{◌≡◌, ◌++◌}
use Rattle.lp_ascent.specs.CallLines.{slot_names}
use Rattle.lp_ascent.proofs.calls.slot_names.Given as goal

abbrev pub invariant-loop-slot : goal.invariant-loop-slot
invariant-loop-slot l = l.names.items ++ slot_names l.prefix l.slot-counter l.end ≡ slot_names l.prefix l.first l.end
