use Rattle.std.proofs.Common.{◌-◌, ◌≤◌, replicate}
use Rattle.lp_write.specs.Sinks.{Took}
use Rattle.lp_write.proofs.sinks.write_blanks.Given as goal

abbrev pub invariant-loop-left : goal.invariant-loop-left
invariant-loop-left g l =
    (l.left ≤ l.count) × Took (g.W.Sink.told l.initial.sink) (g.W.Sink.told l.sink) (replicate (l.count - l.left) 32)

abbrev pub decreases-loop-left : goal.decreases-loop-left
decreases-loop-left g l = l.left
