-- What stands below both so far, with its notes: what stood there, and the headers or the other nodes so far.
use Rattle.std.proofs.Common.{◌≡◌, ◌++◌}
use Rattle.std.specs.List.{flat_map}
use Rattle.lp_build.specs.Ascent.{but_header, but_header_notes, header_notes, header_parts}
use Rattle.lp_tree.specs.ProgramTree.{head, head_notes, notes_below, parts_below}
use Rattle.lp_build.proofs.ascent.add_by_header.Given as goal

abbrev pub invariant-loop-child : goal.invariant-loop-child
invariant-loop-child l = record {
  head : head l.node ≡ head l.initial.node;
  below : parts_below l.node ≡ parts_below l.initial.node ++ flat_map header_parts l.yielded;
  rest : parts_below l.rest ≡ parts_below l.initial.rest ++ flat_map but_header l.yielded;
  notes : head_notes l.node ≡ head_notes l.initial.node;
  rest_notes : notes_below l.rest ≡ notes_below l.initial.rest ++ flat_map but_header_notes l.yielded;
  notes_below : notes_below l.node ≡ notes_below l.initial.node ++ flat_map header_notes l.yielded;
}
