-- What the lines that are left make, after those so far.
use Rattle.std.proofs.Common.{◌≡◌}
use Rattle.lp_view.specs.PartLists.{listed, parts_left, over}
use Rattle.lp_maker.specs.Making.{making}
use Rattle.lp_bodies.specs.Lines.{lines_of}
use Rattle.lp_bodies.specs.Reductions.{work_of, reduce_line, reduce_lines}
use Rattle.lp_bodies.proofs.reduce.reduce_lines.Given as goal

abbrev pub invariant-loop-line : goal.invariant-loop-line
invariant-loop-line l =
    over reduce_line (work_of (lines_of l.scope l.parts.items) (making l.maker)) (parts_left l.line-iterator) ≡ reduce_lines (making l.fn.maker) l.fn.scope (listed l.fn.form)
