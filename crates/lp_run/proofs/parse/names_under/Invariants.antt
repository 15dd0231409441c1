-- The names after the rows that are left.
use Rattle.std.proofs.Common.{◌≡◌}
use Rattle.lp_view.specs.PartLists.{listed, parts_left, parts_of, over}
use Rattle.lp_maker.specs.Slots.{no_names}
use Rattle.lp_run.specs.ParseMethod.{parameter_row}
use Rattle.lp_run.proofs.parse.names_under.Given as goal

abbrev pub invariant-loop-row : goal.invariant-loop-row
invariant-loop-row l = over (parameter_row l.prefix) l.names (parts_left l.row-iterator) ≡ over (parameter_row l.prefix) no_names (parts_of (listed l.fn.header))
