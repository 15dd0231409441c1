-- What is sought is the first among the parts that are left.
use Rattle.std.proofs.Common.{◌≡◌}
use Rattle.lp_view.specs.PartLists.{listed, parts_left, parts_of, first_that, is_a}
use Rattle.lp_run.proofs.named.first_part.Given as goal

abbrev pub invariant-loop-row : goal.invariant-loop-row
invariant-loop-row l = first_that (is_a l.sought) (parts_left l.row-iterator) ≡ first_that (is_a l.sought) (parts_of (listed l.fn.form))
