-- The first of the rows that are left.
use Rattle.std.proofs.Common.{◌≡◌}
use Rattle.lp_form.specs.declared.part.Part.TheVariants as part
use Rattle.lp_view.specs.PartLists.{is_a, listed, parts_left, first_that}
use Rattle.lp_ascent_bodies.specs.AscentArms.{lines_below}
use Rattle.lp_ascent_bodies.proofs.ascent_arms.lines_below.Given as goal

abbrev pub invariant-loop-row : goal.invariant-loop-row
invariant-loop-row l = first_that (is_a part.ReduceLines) (parts_left l.row-iterator) ≡ lines_below (listed l.fn.line)
