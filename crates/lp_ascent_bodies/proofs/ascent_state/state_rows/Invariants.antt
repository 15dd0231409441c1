-- What the lines that are left give, after those so far.
use Rattle.std.proofs.Common.{◌≡◌}
use Rattle.lp_view.specs.PartLists.{listed, parts_left, over}
use Rattle.lp_maker.specs.Making.{making}
use Rattle.lp_ascent_bodies.specs.AscentStates.{stating_of, state_row, state_rows}
use Rattle.lp_ascent_bodies.proofs.ascent_state.state_rows.Given as goal

abbrev pub invariant-loop-line : goal.invariant-loop-line
invariant-loop-line l =
    over state_row (stating_of l.scope l.state (making l.maker)) (parts_left l.line-iterator) ≡ state_rows (listed l.fn.form) (stating_of l.fn.scope l.fn.state (making l.fn.maker))
