-- The modules of the starts so far.
use Rattle.std.specs.List.{flat_map}
use Rattle.lp_tree.specs.ProgramTree.{items}
use Rattle.lp_assembly.specs.Built.{AreModules}
use Rattle.lp_assembly.proofs.program.modules.Given as goal

abbrev pub invariant-loop-number : goal.invariant-loop-number
invariant-loop-number l = AreModules l.grammar l.states l.number (flat_map items l.nodes.items)
