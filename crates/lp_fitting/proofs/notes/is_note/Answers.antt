use Rattle.lp_fitting.proofs.Parts.{note_told, note_fails}
use Rattle.lp_fitting.proofs.notes.is_note.Goals as goal

pub returns-then-are_steady : goal.returns-then-are_steady
returns-then-are_steady c =
    note_told c.args.part.now c.are_trailing.result (rw c.deref.ensures.value at (c.are_steady.ensures.0 c.if-are_steady.true)) (rw c.deref-then-are_steady.ensures.value at c.are_trailing.ensures)

pub returns-else-are_steady : goal.returns-else-are_steady
returns-else-are_steady c = note_fails c.args.part.now c.are_steady.result c.if-are_steady.false (rw c.deref.ensures.value at c.are_steady.ensures)
