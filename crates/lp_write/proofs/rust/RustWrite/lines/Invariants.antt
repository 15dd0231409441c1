use Rattle.std.proofs.Common.{map, take}
use Rattle.lp_write.specs.Lines.Line.{line}
use Rattle.lp_write.specs.Writes.{writing, AppendsAll}
use Rattle.lp_write.proofs.rust.RustWrite.lines.Given as goal

abbrev pub invariant-loop-text : goal.invariant-loop-text
invariant-loop-text g l =
    AppendsAll (writing g.W.Sink.told l.initial.self) (writing g.W.Sink.told l.self)
    (map (λ s. line (g.S.AsStr.text s)) (take l.text-index l.texts))
