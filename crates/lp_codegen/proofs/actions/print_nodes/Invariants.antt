-- The lines so far, and those to come.
use Rattle.std.proofs.Common.{drop}
use Rattle.lp_write.specs.Writes.{options_of, writing}
use Rattle.lp_program.proofs.Progress.{Left}
use Rattle.lp_codegen.specs.Printing.{all_node_lines}
use Rattle.lp_codegen.proofs.actions.print_nodes.Given as goal

abbrev pub invariant-loop-node : goal.invariant-loop-node
invariant-loop-node g l =
    Left (writing g.W.Sink.told l.initial.out) (writing g.W.Sink.told l.out) (all_node_lines (options_of l.initial.out) l.prefix l.nodes)
    (all_node_lines (options_of l.initial.out) l.prefix (drop l.node-index l.nodes))
