-- What stands below so far, with its notes: what stood there, and the rows so far.
use Rattle.std.proofs.Common.{◌≡◌, ◌++◌, map}
use Rattle.lp_build.specs.Machine.{field_row}
use Rattle.lp_tree.specs.ProgramTree.{head, head_notes, notes_below, parts_below, unnoted}
use Rattle.lp_build.proofs.machine.machine_struct.Given as goal

abbrev pub invariant-loop-field : goal.invariant-loop-field
invariant-loop-field l = record {
  head : head l.node ≡ head l.initial.node;
  below : parts_below l.node ≡ parts_below l.initial.node ++ map field_row l.yielded;
  notes : head_notes l.node ≡ head_notes l.initial.node;
  notes_below : notes_below l.node ≡ notes_below l.initial.node ++ unnoted (map field_row l.yielded);
}
