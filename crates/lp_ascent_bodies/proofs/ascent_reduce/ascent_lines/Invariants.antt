-- What the lines that are left make, after those so far.
use Rattle.std.proofs.Common.{◌≡◌}
use Rattle.lp_view.specs.PartLists.{listed, parts_left, over}
use Rattle.lp_maker.specs.Making.{making}
use Rattle.lp_bodies.specs.Lines.{lines_of}
use Rattle.lp_bodies.specs.Reductions.{work_of}
use Rattle.lp_ascent_bodies.specs.AscentReductions.{ascent_line, ascent_lines}
use Rattle.lp_ascent_bodies.proofs.ascent_reduce.ascent_lines.Given as goal

abbrev pub invariant-loop-line : goal.invariant-loop-line
invariant-loop-line l =
    over (ascent_line l.lines) (work_of (lines_of l.scope l.parts.items) (making l.maker)) (parts_left l.line-iterator) ≡ ascent_lines l.lines (making l.fn.maker) l.fn.scope (listed l.fn.form)
