-- What the rows that are left give, after those so far.
use Rattle.std.proofs.Common.{◌≡◌}
use Rattle.lp_view.specs.PartLists.{listed, parts_left, over}
use Rattle.lp_bodies.specs.Arms.{gathered}
use Rattle.lp_ascent_bodies.specs.AscentTrials.{ascent_row, ascent_rows}
use Rattle.lp_ascent_bodies.proofs.ascent_trial.ascent_rows.Given as goal

abbrev pub invariant-loop-row : goal.invariant-loop-row
invariant-loop-row l =
    over ascent_row (gathered l.arms) (parts_left l.row-iterator) ≡ ascent_rows (listed l.fn.form)
