use Rattle.std.proofs.Common.{◌-◌, replicate}
use Rattle.lp_write.specs.Lines.Line.{line}
use Rattle.lp_write.specs.Writes.{writing}
use Rattle.lp_program.proofs.Progress.{Left}
use Rattle.lp_program.proofs.print.own.print_same.Given as goal

abbrev pub invariant-loop-i : goal.invariant-loop-i
invariant-loop-i g l =
    Left (writing g.W.Sink.told l.initial.out) (writing g.W.Sink.told l.out) (replicate l.times (line l.text))
    (replicate (l.times - l._i) (line l.text))
