use Rattle.std.proofs.Common.{map, take}
use Rattle.lp_write.specs.Lines.Line.{verbatim}
use Rattle.lp_write.specs.Writes.{writing, AppendsAll}
use Rattle.lp_write.proofs.rust.RustWrite.codes.Given as goal

abbrev pub invariant-loop-text : goal.invariant-loop-text
invariant-loop-text g l =
    AppendsAll (writing g.W.Sink.told l.initial.self) (writing g.W.Sink.told l.self) (map verbatim (take l.text-index l.texts))
