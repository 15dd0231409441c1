-- What stands below so far, with its notes: what stood there, and the rows so far.
use Rattle.std.proofs.Common.{◌≡◌, ◌++◌, map}
use Rattle.lp_build.specs.Tables.{goto_note, goto_row}
use Rattle.lp_tree.specs.ProgramTree.{head, head_notes, notes_below, parts_below}
use Rattle.lp_build.proofs.table.goto_match.Given as goal

abbrev pub invariant-loop-arm : goal.invariant-loop-arm
invariant-loop-arm l = record {
  head : head l.node ≡ head l.initial.node;
  below : parts_below l.node ≡ parts_below l.initial.node ++ map goto_row l.yielded;
  notes : head_notes l.node ≡ head_notes l.initial.node;
  notes_below : notes_below l.node ≡ notes_below l.initial.node ++ map goto_note l.yielded;
}
