-- No form stands before the place.
use Rattle.std.proofs.Common.{◌≡◌, drop, map}
use Rattle.lp_tree.specs.ProgramTree.{item}
use Rattle.lp_view.specs.PartLists.{forms_among}
use Rattle.lp_view.proofs.walk.first_form.Given as goal

abbrev pub invariant-loop-at : goal.invariant-loop-at
invariant-loop-at l = forms_among (map item (drop l.at l.entries)) ≡ forms_among (map item l.entries)
