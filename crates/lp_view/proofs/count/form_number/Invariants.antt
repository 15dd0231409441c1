-- The form that is sought is the one that is left to find.
use Rattle.std.proofs.Common.{◌≡◌, drop}
use Rattle.std.specs.Prelude.{slice_get}
use Rattle.lp_tree.specs.ProgramTree.{forms_of}
use Rattle.lp_view.proofs.count.form_number.Given as goal

abbrev pub invariant-loop-entry : goal.invariant-loop-entry
invariant-loop-entry l = slice_get (forms_of (drop l.entry-index l.entry-items)) l.left ≡ slice_get (forms_of l.program.entries.items) l.i
