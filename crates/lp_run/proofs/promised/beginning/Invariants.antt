-- What the parts that are left begin with, after those so far.
use Rattle.std.proofs.Common.{◌≡◌}
use Rattle.lp_view.specs.PartLists.{listed, parts_left, over}
use Rattle.lp_maker.specs.Making.{making}
use Rattle.lp_run.specs.Promised.{promises_of, beginning_of, beginning_row, beginning}
use Rattle.lp_run.proofs.promised.beginning.Given as goal

abbrev pub invariant-loop-row : goal.invariant-loop-row
invariant-loop-row l =
    over beginning_row (beginning_of l.begun.located (promises_of l.begun.actions.items) (making l.maker)) (parts_left l.row-iterator) ≡ beginning (making l.fn.maker) (listed l.fn.form)
