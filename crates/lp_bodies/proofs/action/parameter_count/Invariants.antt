-- How many the rows that are left make, after those so far.
use Rattle.std.proofs.Common.{◌≡◌}
use Rattle.lp_view.specs.PartLists.{listed, parts_left, over}
use Rattle.lp_bodies.specs.Actions.{counted_row, parameter_count}
use Rattle.lp_bodies.proofs.action.parameter_count.Given as goal

abbrev pub invariant-loop-row : goal.invariant-loop-row
invariant-loop-row l = over (counted_row l.prefix) l.count (parts_left l.row-iterator) ≡ parameter_count l.prefix (listed l.fn.header)
