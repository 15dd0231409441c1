-- What the arms that are left give, after those so far.
use Rattle.std.proofs.Common.{◌≡◌}
use Rattle.lp_view.specs.PartLists.{listed, parts_left, over}
use Rattle.lp_bodies.specs.Arms.{gathered}
use Rattle.lp_bodies.specs.Tables.{goto_arm, goto_arms}
use Rattle.lp_bodies.proofs.table.goto_arms.Given as goal

abbrev pub invariant-loop-arm : goal.invariant-loop-arm
invariant-loop-arm l =
    over (goto_arm l.kind) (gathered l.arms) (parts_left l.arm-iterator) ≡ goto_arms l.kind (listed l.fn.form)
