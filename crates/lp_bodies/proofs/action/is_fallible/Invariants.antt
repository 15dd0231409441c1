-- What the rows that are left say, after those so far.
use Rattle.std.proofs.Common.{◌≡◌}
use Rattle.lp_view.specs.PartLists.{listed, parts_left, over}
use Rattle.lp_bodies.specs.Actions.{fallible_row, is_fallible}
use Rattle.lp_bodies.proofs.action.is_fallible.Given as goal

abbrev pub invariant-loop-row : goal.invariant-loop-row
invariant-loop-row l = over (fallible_row l.error) l.fallible (parts_left l.row-iterator) ≡ is_fallible l.error (listed l.fn.header)
