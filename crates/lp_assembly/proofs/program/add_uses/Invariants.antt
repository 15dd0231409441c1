-- What stood there, and the uses so far.
use Rattle.std.proofs.Common.{◌≡◌, ◌++◌, take}
use Rattle.std.specs.List.{flat_map}
use Rattle.lp_tree.specs.ProgramTree.{items}
use Rattle.lp_assembly.specs.Built.{use_lines}
use Rattle.lp_assembly.proofs.program.add_uses.Given as goal

abbrev pub invariant-loop-text : goal.invariant-loop-text
invariant-loop-text l =
    flat_map items l.below.items ≡ flat_map items l.initial.below.items ++ use_lines (take l.text-index l.texts)
