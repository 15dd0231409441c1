-- The fields after the rows that are left.
use Rattle.std.proofs.Common.{◌≡◌}
use Rattle.lp_view.specs.PartLists.{listed, parts_left, over}
use Rattle.lp_run.specs.ParseMethod.{fields_of, field_row, fields}
use Rattle.lp_run.proofs.parse.fields_of.Given as goal

abbrev pub invariant-loop-row : goal.invariant-loop-row
invariant-loop-row l = over (field_row l.names) (fields_of l.numbers.items l.known) (parts_left l.row-iterator) ≡ fields l.names (listed l.fn.form)
