-- The functions so far, and those to come.
use Rattle.std.proofs.Common.{◌≡◌, ◌++◌, drop, map}
use Rattle.std.specs.List.{flat_map}
use Rattle.std.specs.Map.Iter.{deref}
use Rattle.lp_repr.specs.ShownTypes.{type_text}
use Rattle.lp_tree.specs.ProgramTree.{items}
use Rattle.lp_table.specs.ReductionLines.{pops_from}
use Rattle.lp_table.proofs.reductions.add_pops_of.Given as goal

abbrev pub invariant-loop-number : goal.invariant-loop-number
invariant-loop-number l =
    flat_map items l.nodes.items ++ pops_from l.shared.grammar.now l.number (map type_text (map deref (drop l.number l.types)))
    ≡ flat_map items l.initial.nodes.items ++ pops_from l.shared.grammar.now 0 (map type_text (map deref l.types))
