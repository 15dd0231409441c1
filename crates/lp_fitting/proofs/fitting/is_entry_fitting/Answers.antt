use Rattle.lp_fitting.proofs.Parts.{part_fails, part_told, unfilled}
use Rattle.lp_fitting.proofs.fitting.is_entry_fitting.Goals as goal

pub returns-then-not-are_notes : goal.returns-then-not-are_notes
returns-then-not-are_notes c = part_fails c.args.prefix.now c.args.entry.now (rw c.deref.ensures.value at c.if-not-are_notes.ensures)

pub returns-then-not-branch : goal.returns-then-not-branch
returns-then-not-branch c =
    unfilled c.args.prefix.now c.args.entry.now c.in_ok-holes_fill.field-0 c.if-not-branch.true (rw (c.holes.ensures, c.deref-2.ensures.value) at c.in_ok-holes_fill.ensures)

pub returns : goal.returns
returns c =
    let filling = c.in_ok-holes_fill.ensures.0 c.if-not-branch.false in
    part_told c.args.prefix.now c.args.entry.now c.is_parted.result (rw c.deref.ensures.value at (c.are_notes.ensures.0 c.if-not-are_notes.false))
    (rw (c.holes.ensures, c.deref-2.ensures.value) at filling)
    (rw c.deref-3.ensures.value at c.is_parted.ensures)
