-- What stands below so far and the arms that are left are what stood there and all arms.
use Rattle.std.proofs.Common.{◌≡◌, ◌++◌}
use Rattle.std.specs.Vec.Iter.{into_iter_items}
use Rattle.lp_build.specs.Ascent.{goto_row_notes, goto_rows}
use Rattle.lp_tree.specs.ProgramTree.{head, head_notes, notes_below, parts_below}
use Rattle.lp_build.proofs.ascent.add_gotos.Given as goal

abbrev pub invariant-loop-arm : goal.invariant-loop-arm
invariant-loop-arm l = record {
  head : head l.node ≡ head l.initial.node;
  below : parts_below l.node ++ goto_rows (into_iter_items l.arm-iterator) l.transitions.items
      ≡ parts_below l.initial.node ++ goto_rows l.fn.arms.items l.initial.transitions.items;
  notes : head_notes l.node ≡ head_notes l.initial.node;
  notes_below : notes_below l.node ++ goto_row_notes (into_iter_items l.arm-iterator) l.transitions.items
      ≡ notes_below l.initial.node ++ goto_row_notes l.fn.arms.items l.initial.transitions.items;
}
