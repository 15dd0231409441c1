-- Whether a line that is left is a return, or one of those so far.
use Rattle.std.proofs.Common.{◌≡◌}
use Rattle.lp_view.specs.PartLists.{listed, parts_left, over}
use Rattle.lp_ascent_bodies.specs.AscentReductions.{return_row, returns}
use Rattle.lp_ascent_bodies.proofs.ascent_reduce.returns.Given as goal

abbrev pub invariant-loop-line : goal.invariant-loop-line
invariant-loop-line l =
    over return_row l.found (parts_left l.line-iterator) ≡ returns (listed l.fn.form)
