-- The lines so far.
use Rattle.std.proofs.Common.{map, take}
use Rattle.lp_write.specs.Lines.Line.{line}
use Rattle.lp_write.specs.Writes.{writing, AppendsAll}
use Rattle.lp_codegen.proofs.lines.write_texts.Given as goal

abbrev pub invariant-loop-text : goal.invariant-loop-text
invariant-loop-text g l =
    AppendsAll (writing g.W.Sink.told l.initial.out) (writing g.W.Sink.told l.out) (map line (take l.text-index l.texts))
