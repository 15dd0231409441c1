-- What the lines that are left make, after those so far.
use Rattle.std.proofs.Common.{◌≡◌}
use Rattle.lp_view.specs.PartLists.{listed, parts_left, over}
use Rattle.lp_maker.specs.Making.{making}
use Rattle.lp_bodies.specs.Lines.{lines_of}
use Rattle.lp_bodies.specs.Inlining.{inline_line, inline_lines}
use Rattle.lp_bodies.proofs.inlining.inline_body.Given as goal

abbrev pub invariant-loop-line : goal.invariant-loop-line
invariant-loop-line l =
    over (inline_line (making l.maker)) (lines_of l.scope l.parts.items) (parts_left l.line-iterator) ≡ inline_lines (making l.maker) l.fn.scope (listed l.fn.body)
