-- What the rows that are left say, after those so far.
use Rattle.std.proofs.Common.{◌≡◌}
use Rattle.lp_view.specs.PartLists.{listed, parts_left, over}
use Rattle.lp_maker.specs.Making.{making}
use Rattle.lp_bodies.specs.MachineMethods.{recovering_of, recovery_row, recovery_rows}
use Rattle.lp_bodies.proofs.methods.recovery_rows.Given as goal

abbrev pub invariant-loop-row : goal.invariant-loop-row
invariant-loop-row l =
    over recovery_row (recovering_of l.uses l.symbol (making l.maker)) (parts_left l.row-iterator) ≡ recovery_rows (making l.fn.maker) (listed l.fn.form)
