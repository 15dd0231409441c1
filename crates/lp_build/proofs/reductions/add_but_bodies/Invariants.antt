-- What stands below so far, with its notes: what stood there, and the nodes but the bodies so far; and the bodies so far.
use Rattle.std.proofs.Common.{◌≡◌, ◌++◌}
use Rattle.std.specs.List.{flat_map}
use Rattle.lp_build.specs.Reductions.{body_in, but_body, but_body_notes}
use Rattle.lp_tree.specs.ProgramTree.{head, head_notes, notes_below, parts_below}
use Rattle.lp_build.proofs.reductions.add_but_bodies.Given as goal

abbrev pub invariant-loop-child : goal.invariant-loop-child
invariant-loop-child l = record {
  head : head l.node ≡ head l.initial.node;
  below : parts_below l.node ≡ parts_below l.initial.node ++ flat_map but_body l.yielded;
  bodies : l.bodies.items ≡ flat_map body_in l.yielded;
  notes : head_notes l.node ≡ head_notes l.initial.node;
  notes_below : notes_below l.node ≡ notes_below l.initial.node ++ flat_map but_body_notes l.yielded;
}
