-- What stood there, and the attributes so far.
use Rattle.std.proofs.Common.{◌≡◌, ◌++◌, take}
use Rattle.std.specs.List.{flat_map}
use Rattle.lp_tree.specs.ProgramTree.{items}
use Rattle.lp_assembly.specs.Built.{attribute_lines}
use Rattle.lp_assembly.proofs.program.add_attributes.Given as goal

abbrev pub invariant-loop-text : goal.invariant-loop-text
invariant-loop-text l =
    flat_map items l.below.items ≡ flat_map items l.initial.below.items ++ attribute_lines (take l.text-index l.texts)
