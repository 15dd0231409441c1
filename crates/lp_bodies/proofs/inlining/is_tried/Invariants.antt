-- Whether the rows that are left end the call so, or one of those so far did.
use Rattle.std.proofs.Common.{◌≡◌}
use Rattle.lp_view.specs.PartLists.{listed, parts_left, over}
use Rattle.lp_bodies.specs.Inlining.{ends_so, is_tried}
use Rattle.lp_bodies.proofs.inlining.is_tried.Given as goal

abbrev pub invariant-loop-row : goal.invariant-loop-row
invariant-loop-row l = over ends_so l.found (parts_left l.row-iterator) ≡ is_tried (listed l.fn.line)
