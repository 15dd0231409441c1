-- The cells of the rows that are left, after those so far.
use Rattle.std.proofs.Common.{◌≡◌}
use Rattle.lp_view.specs.PartLists.{listed, parts_left, over}
use Rattle.lp_ascent_bodies.specs.AscentErrors.{cell_row, other_cells}
use Rattle.lp_ascent_bodies.proofs.ascent_error.other_cells.Given as goal

abbrev pub invariant-loop-row : goal.invariant-loop-row
invariant-loop-row l = over (cell_row l.scope) l.cells.items (parts_left l.row-iterator) ≡ other_cells l.scope (listed l.fn.form)
