-- What stands below so far, with its notes: what stood there, and the rows so far.
use Rattle.std.proofs.Common.{◌≡◌, ◌++◌}
use Rattle.std.specs.List.{flat_map}
use Rattle.lp_build.specs.Actions.{call_lines}
use Rattle.lp_tree.specs.ProgramTree.{head, head_notes, notes_below, parts_below, unnoted}
use Rattle.lp_build.proofs.action.add_calls.Given as goal

abbrev pub invariant-loop-call : goal.invariant-loop-call
invariant-loop-call l = record {
  head : head l.node ≡ head l.initial.node;
  below : parts_below l.node ≡ parts_below l.initial.node ++ flat_map call_lines l.yielded;
  notes : head_notes l.node ≡ head_notes l.initial.node;
  notes_below : notes_below l.node ≡ notes_below l.initial.node ++ unnoted (flat_map call_lines l.yielded);
}
