-- What stands below so far, with its notes: what stood there, and the rows so far.
use Rattle.std.proofs.Common.{◌≡◌, ◌++◌}
use Rattle.lp_build.specs.Built.{text_rows}
use Rattle.lp_tree.specs.ProgramTree.{head, head_notes, notes_below, parts_below, unnoted}
use Rattle.lp_build.proofs.add_names.Given as goal

abbrev pub invariant-loop-name : goal.invariant-loop-name
invariant-loop-name l = record {
  head : head l.node ≡ head l.initial.node;
  below : parts_below l.node ≡ parts_below l.initial.node ++ text_rows l.part (l.yielded);
  notes : head_notes l.node ≡ head_notes l.initial.node;
  notes_below : notes_below l.node ≡ notes_below l.initial.node ++ unnoted (text_rows l.part l.yielded);
}
