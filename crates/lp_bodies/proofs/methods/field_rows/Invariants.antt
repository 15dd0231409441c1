-- The fields in the rows that are left, after those so far.
use Rattle.std.proofs.Common.{◌≡◌}
use Rattle.lp_view.specs.PartLists.{listed, parts_left, over}
use Rattle.lp_bodies.specs.MachineMethods.{field_row, field_rows}
use Rattle.lp_bodies.proofs.methods.field_rows.Given as goal

abbrev pub invariant-loop-row : goal.invariant-loop-row
invariant-loop-row l =
    over (field_row l.fields) l.args.items (parts_left l.row-iterator) ≡ field_rows l.fields (listed l.fn.form)
