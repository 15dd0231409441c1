use Rattle.std.proofs.Common.{map, drop}
use Rattle.lp_write.specs.Writes.{writing}
use Rattle.lp_program.specs.OwnLines.{note_lines}
use Rattle.lp_program.proofs.Progress.{Left}
use Rattle.lp_program.proofs.print.own.print_notes.Given as goal
use Rattle.lp_tree.specs.ProgramTree.{noted}

abbrev pub invariant-loop-note : goal.invariant-loop-note
invariant-loop-note g l =
    Left (writing g.W.Sink.told l.initial.out) (writing g.W.Sink.told l.out) (note_lines (map noted l.notes))
    (note_lines (map noted (drop l.note-index l.notes)))
