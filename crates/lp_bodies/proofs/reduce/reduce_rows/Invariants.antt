-- What the rows that are left give, after those so far.
use Rattle.std.proofs.Common.{◌≡◌}
use Rattle.lp_view.specs.PartLists.{listed, parts_left, over}
use Rattle.lp_maker.specs.Making.{making}
use Rattle.lp_bodies.specs.Arms.{gathered}
use Rattle.lp_bodies.specs.Reductions.{arming_of, reduce_row, reduce_from}
use Rattle.lp_bodies.proofs.reduce.reduce_rows.Given as goal

abbrev pub invariant-loop-row : goal.invariant-loop-row
invariant-loop-row l =
    over reduce_row (arming_of (gathered l.arms) l.kind (making l.maker)) (parts_left l.row-iterator) ≡ reduce_from (gathered l.fn.arms) (making l.fn.maker) (listed l.fn.form)
