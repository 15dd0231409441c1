-- What stands below so far, with its notes: what stood there, and the parts of the nodes so far.
use Rattle.std.proofs.Common.{◌≡◌, ◌++◌}
use Rattle.std.specs.List.{flat_map}
use Rattle.lp_tree.specs.ProgramTree.{all_notes, head, head_notes, items, notes_below, parts_below}
use Rattle.lp_tree.proofs.tree.Node.add_all.Given as goal

abbrev pub invariant-loop-child : goal.invariant-loop-child
invariant-loop-child l = record {
  head : head l.self ≡ head l.initial.self;
  below : parts_below l.self ≡ parts_below l.initial.self ++ flat_map items l.yielded;
  notes : head_notes l.self ≡ head_notes l.initial.self;
  notes_below : notes_below l.self ≡ notes_below l.initial.self ++ flat_map all_notes l.yielded;
}
