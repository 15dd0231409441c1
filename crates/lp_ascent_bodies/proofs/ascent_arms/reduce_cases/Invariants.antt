-- What the rows that are left give, after those so far.
use Rattle.std.proofs.Common.{◌≡◌}
use Rattle.lp_view.specs.PartLists.{listed, parts_left, over}
use Rattle.lp_maker.specs.Making.{making}
use Rattle.lp_bodies.specs.Arms.{gathered}
use Rattle.lp_bodies.specs.Tables.{reading_of}
use Rattle.lp_ascent_bodies.specs.AscentArms.{case_row, reduce_cases}
use Rattle.lp_ascent_bodies.proofs.ascent_arms.reduce_cases.Given as goal

abbrev pub invariant-loop-row : goal.invariant-loop-row
invariant-loop-row l =
    over case_row (reading_of (gathered l.arms) (making l.maker)) (parts_left l.row-iterator) ≡ reduce_cases (listed l.fn.line) (reading_of (gathered l.fn.arms) (making l.fn.maker))
