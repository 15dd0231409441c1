use Rattle.std.proofs.Common.{map, drop}
use Rattle.lp_write.specs.Lines.Line.{line}
use Rattle.lp_write.specs.Writes.{writing}
use Rattle.lp_program.proofs.Progress.{Left}
use Rattle.lp_program.proofs.print.own.print_texts.Given as goal

abbrev pub invariant-loop-text : goal.invariant-loop-text
invariant-loop-text g l =
    Left (writing g.W.Sink.told l.initial.out) (writing g.W.Sink.told l.out) (map line l.texts) (map line (drop l.text-index l.texts))
