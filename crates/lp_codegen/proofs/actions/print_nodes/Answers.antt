use Rattle.std.proofs.Common.{◌≡◌, ℕ, ◌+◌, ◌<◌, List, ◌++◌, length, get_or, drop, sym, ap, ◌∙◌}
use Rattle.std.proofs.lemmas.List.{at_drop_more}
use Rattle.std.proofs.lemmas.Result.{err_from_is_err_and}
use Rattle.lp_tree.specs.declared.tree.Node.{Node}
use Rattle.lp_write.specs.Writes.{options_of}
use Rattle.lp_write.specs.declared.rust.Options.{Options}
use Rattle.lp_program.specs.Printed.{node_lines}
use Rattle.lp_program.proofs.Progress.{left-more, left-stopped}
use Rattle.lp_codegen.specs.Printing.{all_node_lines}
use Rattle.lp_codegen.proofs.actions.print_nodes.Goals as goal

-- the lines of nodes from a place on
nodes-next : (o : Options) (p : List ℕ) (nodes : List Node) (i : ℕ) (n : Node) → n ≡ get_or nodes i n → i < length nodes →
    all_node_lines o p (drop i nodes) ≡ node_lines o p n ++ all_node_lines o p (drop (i + 1) nodes)
nodes-next o p nodes i n e h =
    at_drop_more (all_node_lines o p) nodes i n h
    ∙ ap (λ m. node_lines o p m ++ all_node_lines o p (drop (i + 1) nodes)) (sym e)

pub returns-in_err-print_node : goal.returns-in_err-print_node
returns-in_err-print_node g c =
    let p = err_from_is_err_and c.from_residual.result c.from_residual.ensures.1 in
    rw (p.1, p.2)
    (left-stopped (λ o. node_lines o c.args.prefix.now c.node-item.result) _ _ _ _ _ _ _ c.loop-node.invariant
    (nodes-next (options_of c.args.out.now) c.args.prefix.now c.args.nodes.now c.loop-node.node-index c.node-item.result c.node-item.is c.loop-node-test.true)
    c.in_err-print_node.ensures)

pub loop-node-preserved : goal.loop-node-preserved
loop-node-preserved g c =
    left-more (λ o. node_lines o c.args.prefix.now c.node-item.result) _ _ _ _ _ _ c.loop-node.invariant
    (nodes-next (options_of c.args.out.now) c.args.prefix.now c.args.nodes.now c.loop-node.node-index c.node-item.result c.node-item.is c.loop-node-test.true)
    c.in_ok-print_node.ensures
