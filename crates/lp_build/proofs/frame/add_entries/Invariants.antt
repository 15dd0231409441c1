-- What stands below so far, with its notes: what stood there, and the rows so far.
use Rattle.std.proofs.Common.{◌≡◌, ◌++◌, map}
use Rattle.lp_build.specs.Frame.{intern_row}
use Rattle.lp_tree.specs.ProgramTree.{head, head_notes, notes_below, parts_below, unnoted}
use Rattle.lp_build.proofs.frame.add_entries.Given as goal

abbrev pub invariant-loop-entry : goal.invariant-loop-entry
invariant-loop-entry l = record {
  head : head l.node ≡ head l.initial.node;
  below : parts_below l.node ≡ parts_below l.initial.node ++ map intern_row l.yielded;
  notes : head_notes l.node ≡ head_notes l.initial.node;
  notes_below : notes_below l.node ≡ notes_below l.initial.node ++ unnoted (map intern_row l.yielded);
}
