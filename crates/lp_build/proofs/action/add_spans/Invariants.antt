-- What stands below so far, with its notes: what stood there, and the rows so far.
use Rattle.std.proofs.Common.{◌≡◌, ◌++◌, map}
use Rattle.lp_build.specs.Actions.{span_row}
use Rattle.lp_tree.specs.ProgramTree.{head, head_notes, notes_below, parts_below, unnoted}
use Rattle.lp_build.proofs.action.add_spans.Given as goal

abbrev pub invariant-loop-span : goal.invariant-loop-span
invariant-loop-span l = record {
  head : head l.node ≡ head l.initial.node;
  below : parts_below l.node ≡ parts_below l.initial.node ++ map span_row l.yielded;
  notes : head_notes l.node ≡ head_notes l.initial.node;
  notes_below : notes_below l.node ≡ notes_below l.initial.node ++ unnoted (map span_row l.yielded);
}
