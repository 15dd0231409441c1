-- What the rows that are left give, after those so far.
use Rattle.std.proofs.Common.{◌≡◌}
use Rattle.lp_view.specs.PartLists.{listed, parts_left, over}
use Rattle.lp_bodies.specs.Arms.{gathered}
use Rattle.lp_bodies.specs.Trials.{simulate_row, simulate_rows}
use Rattle.lp_bodies.proofs.trial.simulate_rows.Given as goal

abbrev pub invariant-loop-row : goal.invariant-loop-row
invariant-loop-row l =
    over (simulate_row l.maker.prefix.now) (gathered l.arms) (parts_left l.row-iterator) ≡ simulate_rows l.maker.prefix.now (listed l.fn.form)
