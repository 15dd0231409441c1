use Rattle.std.proofs.Common.{◌-◌, ◌≤◌, length, take}
use Rattle.lp_write.specs.Sinks.{Took}
use Rattle.lp_write.proofs.sinks.write_all.Given as goal

abbrev pub invariant-loop-at : goal.invariant-loop-at
invariant-loop-at g l =
    (l.at ≤ length l.piece) × Took (g.W.Sink.told l.initial.sink) (g.W.Sink.told l.sink) (take l.at l.piece)

abbrev pub decreases-loop-at : goal.decreases-loop-at
decreases-loop-at g l = length l.initial.piece - l.at
