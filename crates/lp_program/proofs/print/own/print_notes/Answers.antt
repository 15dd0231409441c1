use Rattle.std.proofs.Common.{◌≡◌, ℕ, ◌+◌, ◌<◌, List, ◌++◌, length, map, get_or, drop, sym, ap, ◌∙◌}
use Rattle.std.proofs.lemmas.List.{at_drop_more}
use Rattle.std.proofs.lemmas.Result.{err_from_is_err_and}
use Rattle.lp_write.specs.Lines.Line.{line}
use Rattle.lp_tree.specs.declared.tree.RowNote.{RowNote}
use Rattle.lp_program.specs.OwnLines.{note_lines}
use Rattle.lp_program.proofs.Progress.{left-more, left-stopped}
use Rattle.lp_program.proofs.print.own.print_notes.Goals as goal
use Rattle.lp_tree.specs.ProgramTree.{noted}

notes-next : (notes : List RowNote) (i : ℕ) (n : RowNote) → n ≡ get_or notes i n → i < length notes →
    note_lines (map noted (drop i notes)) ≡ map line n.lines.items ++ note_lines (map noted (drop (i + 1) notes))
notes-next notes i n e h =
    at_drop_more (λ l. note_lines (map noted l)) notes i n h
    ∙ ap (λ m. map line m.lines.items ++ note_lines (map noted (drop (i + 1) notes))) (sym e)

pub returns-in_err-print_texts : goal.returns-in_err-print_texts
returns-in_err-print_texts g c =
    let p = err_from_is_err_and c.from_residual.result c.from_residual.ensures.1 in
    rw (p.1, p.2)
    (left-stopped (λ o. map line c.note-item.result.lines.items) _ _ _ _ _ _ _ c.loop-note.invariant
    (notes-next c.args.notes.now c.loop-note.note-index c.note-item.result c.note-item.is c.loop-note-test.true)
    (rw c.as_slice.ensures.value at c.in_err-print_texts.ensures))

pub loop-note-preserved : goal.loop-note-preserved
loop-note-preserved g c =
    left-more (λ o. map line c.note-item.result.lines.items) _ _ _ _ _ _ c.loop-note.invariant
    (notes-next c.args.notes.now c.loop-note.note-index c.note-item.result c.note-item.is c.loop-note-test.true)
    (rw c.as_slice.ensures.value at c.in_ok-print_texts.ensures)
