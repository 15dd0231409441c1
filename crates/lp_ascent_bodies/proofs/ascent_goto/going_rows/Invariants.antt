-- What the lines that are left give, after those so far.
use Rattle.std.proofs.Common.{◌≡◌}
use Rattle.lp_view.specs.PartLists.{listed, parts_left, over}
use Rattle.lp_maker.specs.Making.{making}
use Rattle.lp_ascent_bodies.specs.AscentGotos.{going_of, going_row, going_rows}
use Rattle.lp_ascent_bodies.proofs.ascent_goto.going_rows.Given as goal

abbrev pub invariant-loop-line : goal.invariant-loop-line
invariant-loop-line l =
    over (going_row l.lines l.slots.0 l.slots.1) (going_of l.scope l.gotos (making l.maker)) (parts_left l.line-iterator) ≡ going_rows l.lines l.slots.0 l.slots.1 (listed l.fn.form) (going_of l.fn.scope l.fn.gotos (making l.fn.maker))
