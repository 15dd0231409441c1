-- What stands below so far and the rows that are left are what stood there and all rows.
use Rattle.std.proofs.Common.{◌≡◌, ◌++◌, map, drop}
use Rattle.std.specs.Fmt.{decimal}
use Rattle.lp_build.specs.Built.{text_rows}
use Rattle.lp_tree.specs.ProgramTree.{head, head_notes, notes_below, parts_below, unnoted}
use Rattle.lp_build.proofs.add_numbers.Given as goal

abbrev pub invariant-loop-number : goal.invariant-loop-number
invariant-loop-number l = record {
  head : head l.node ≡ head l.initial.node;
  below : parts_below l.node ++ text_rows l.part (map decimal (drop l.number-index l.numbers))
      ≡ parts_below l.initial.node ++ text_rows l.part (map decimal l.numbers);
  notes : head_notes l.node ≡ head_notes l.initial.node;
  notes_below : notes_below l.node ++ unnoted (text_rows l.part (map decimal (drop l.number-index l.numbers)))
      ≡ notes_below l.initial.node ++ unnoted (text_rows l.part (map decimal l.numbers));
}
