-- What the lines that are left take out, after those so far.
use Rattle.std.proofs.Common.{◌≡◌}
use Rattle.lp_view.specs.PartLists.{listed, parts_left, over}
use Rattle.lp_bodies.specs.Lines.{lines_of}
use Rattle.lp_ascent_bodies.specs.AscentMoves.{take_row, take_rows}
use Rattle.lp_ascent_bodies.proofs.ascent.take_rows.Given as goal

abbrev pub invariant-loop-line : goal.invariant-loop-line
invariant-loop-line l =
    over take_row (lines_of l.scope l.parts.items) (parts_left l.line-iterator) ≡ take_rows (listed l.fn.form) (lines_of l.fn.scope l.fn.parts.items)
