-- The items are those of the first module under the name among the parts that are left.
use Rattle.std.proofs.Common.{◌≡◌}
use Rattle.lp_view.specs.PartLists.{listed, parts_left, first_given}
use Rattle.lp_run.specs.Named.{entered_by, items_under}
use Rattle.lp_run.proofs.named.items_under.Given as goal

abbrev pub invariant-loop-row : goal.invariant-loop-row
invariant-loop-row l = first_given (entered_by l.start) (parts_left l.row-iterator) ≡ items_under l.start (listed l.fn.form)
