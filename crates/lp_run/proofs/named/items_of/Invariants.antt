-- The items are the first among the parts that are left.
use Rattle.std.proofs.Common.{◌≡◌}
use Rattle.lp_view.specs.PartLists.{listed, parts_left, parts_of, first_that}
use Rattle.lp_run.specs.Named.{is_items}
use Rattle.lp_run.proofs.named.items_of.Given as goal

abbrev pub invariant-loop-row : goal.invariant-loop-row
invariant-loop-row l = first_that is_items (parts_left l.row-iterator) ≡ first_that is_items (parts_of (listed l.fn.form))
