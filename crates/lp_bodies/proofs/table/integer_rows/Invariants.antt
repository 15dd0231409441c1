-- What the rows that are left give, after those so far.
use Rattle.std.proofs.Common.{◌≡◌}
use Rattle.lp_view.specs.PartLists.{listed, parts_left, over}
use Rattle.lp_maker.specs.Making.{making}
use Rattle.lp_bodies.specs.Arms.{gathered}
use Rattle.lp_bodies.specs.Tables.{reading_of, integer_row, integer_rows}
use Rattle.lp_bodies.proofs.table.integer_rows.Given as goal

abbrev pub invariant-loop-row : goal.invariant-loop-row
invariant-loop-row l =
    over integer_row (reading_of (gathered l.arms) (making l.maker)) (parts_left l.row-iterator) ≡ integer_rows (making l.fn.maker) (listed l.fn.form)
