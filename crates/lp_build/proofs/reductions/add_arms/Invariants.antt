-- What stands below so far and what the arms that are left give are what stood there and all arms.
use Rattle.std.proofs.Common.{◌≡◌, ◌++◌}
use Rattle.std.specs.Vec.Iter.{into_iter_items}
use Rattle.lp_build.specs.Reductions.{all_arm_notes, all_arms}
use Rattle.lp_tree.specs.ProgramTree.{head, head_notes, notes_below, parts_below}
use Rattle.lp_build.proofs.reductions.add_arms.Given as goal

abbrev pub invariant-loop-arm : goal.invariant-loop-arm
invariant-loop-arm l = record {
  head : head l.node ≡ head l.initial.node;
  below : parts_below l.node ++ all_arms (into_iter_items l.arm-iterator) l.bodies.items
      ≡ parts_below l.initial.node ++ all_arms l.fn.arms.items l.initial.bodies.items;
  notes : head_notes l.node ≡ head_notes l.initial.node;
  notes_below : notes_below l.node ++ all_arm_notes (into_iter_items l.arm-iterator) l.bodies.items
      ≡ notes_below l.initial.node ++ all_arm_notes l.fn.arms.items l.initial.bodies.items;
}
