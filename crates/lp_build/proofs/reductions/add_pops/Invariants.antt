-- What stands below so far and the symbols that are left are what stood there and all symbols.
use Rattle.std.proofs.Common.{◌≡◌, ◌++◌, vec_len}
use Rattle.lp_build.specs.Reductions.{pop_lines}
use Rattle.lp_tree.specs.ProgramTree.{head, head_notes, notes_below, parts_below, unnoted}
use Rattle.lp_build.proofs.reductions.add_pops.Given as goal

abbrev pub invariant-loop-variant : goal.invariant-loop-variant
invariant-loop-variant l = record {
  head : head l.node ≡ head l.initial.node;
  below : parts_below l.node ++ pop_lines 0 l.variants.items
      ≡ parts_below l.initial.node ++ pop_lines 0 l.initial.variants.items;
  notes : head_notes l.node ≡ head_notes l.initial.node;
  notes_below : notes_below l.node ++ unnoted (pop_lines 0 l.variants.items)
      ≡ notes_below l.initial.node ++ unnoted (pop_lines 0 l.initial.variants.items);
}

abbrev pub decreases-loop-variant : goal.decreases-loop-variant
decreases-loop-variant l = vec_len l.variants
