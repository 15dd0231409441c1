-- What the rows that are left give, after those so far.
use Rattle.std.proofs.Common.{◌≡◌}
use Rattle.lp_view.specs.PartLists.{listed, parts_left, over}
use Rattle.lp_bodies.specs.Arms.{gathered}
use Rattle.lp_bodies.specs.Tables.{goto_row, goto_rows}
use Rattle.lp_bodies.proofs.table.goto_rows.Given as goal

abbrev pub invariant-loop-row : goal.invariant-loop-row
invariant-loop-row l =
    over (goto_row l.kind) (gathered l.arms) (parts_left l.row-iterator) ≡ goto_rows l.kind (listed l.fn.arm)
