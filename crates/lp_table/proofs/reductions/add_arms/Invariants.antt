-- The arms so far, and those to come.
use Rattle.std.proofs.Common.{◌≡◌, ◌++◌, drop, map}
use Rattle.std.specs.List.{flat_map}
use Rattle.std.specs.Map.Iter.{deref}
use Rattle.lp_tree.specs.ProgramTree.{items}
use Rattle.lp_table.specs.ReductionLines.{arms_from}
use Rattle.lp_table.specs.Starts.{start_of}
use Rattle.lp_table.proofs.reductions.add_arms.Given as goal

abbrev pub invariant-loop-number : goal.invariant-loop-number
invariant-loop-number l =
    flat_map items l.nodes.items ++ arms_from l.shared.grammar.now (start_of l.shared.start) l.number (map deref (drop l.number l.productions))
    ≡ flat_map items l.initial.nodes.items ++ arms_from l.shared.grammar.now (start_of l.shared.start) 0 (map deref l.productions)
