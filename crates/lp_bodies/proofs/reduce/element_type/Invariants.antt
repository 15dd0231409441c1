-- What the rows that are left say, after those so far.
use Rattle.std.proofs.Common.{◌≡◌}
use Rattle.lp_view.specs.PartLists.{listed, parts_left, over}
use Rattle.lp_bodies.specs.Reductions.{type_row, element_type}
use Rattle.lp_bodies.proofs.reduce.element_type.Given as goal

abbrev pub invariant-loop-row : goal.invariant-loop-row
invariant-loop-row l =
    over (type_row l.prefix l.before l.after) l.kind (parts_left l.row-iterator) ≡ element_type l.prefix l.before l.after (listed l.fn.header)
