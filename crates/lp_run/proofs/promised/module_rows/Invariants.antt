-- What the parts that are left declare, after those so far.
use Rattle.std.proofs.Common.{◌≡◌}
use Rattle.lp_view.specs.PartLists.{listed, parts_left, over}
use Rattle.lp_maker.specs.Making.{making}
use Rattle.lp_run.specs.Promised.{promises_of, promising_of, module_row, module_rows}
use Rattle.lp_run.proofs.promised.module_rows.Given as goal

abbrev pub invariant-loop-row : goal.invariant-loop-row
invariant-loop-row l =
    over module_row (promising_of (promises_of l.promises.items) (making l.maker)) (parts_left l.row-iterator) ≡ module_rows (making l.fn.maker) (listed l.fn.items)
