-- The arms so far, and those to come.
use Rattle.std.proofs.Common.{◌≡◌, ◌++◌}
use Rattle.std.specs.List.{flat_map}
use Rattle.lp_repr.specs.Numbering.{nonterminals_of}
use Rattle.lp_tree.specs.ProgramTree.{items}
use Rattle.lp_table.specs.TableLines.{gotos_from}
use Rattle.lp_table.proofs.tables.goto_function.Given as goal

abbrev pub invariant-loop-nonterminal : goal.invariant-loop-nonterminal
invariant-loop-nonterminal l =
    flat_map items l.below.items ++ gotos_from l.shared.states.now l.number l._nonterminal-iterator
    ≡ gotos_from l.shared.states.now 0 (nonterminals_of l.shared.grammar.now)
