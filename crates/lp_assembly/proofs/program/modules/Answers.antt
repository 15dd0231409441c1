use Rattle.std.proofs.Common.{ap, ◌∙◌, map}
use Rattle.std.specs.List.{flat_map}
use Rattle.std.specs.Map.Iter.{deref_pair}
use Rattle.lp_tree.specs.ProgramTree.{items}
use Rattle.lp_assembly.proofs.Modules.{list_fits, looked_up, modules_more, named_at}
use Rattle.lp_assembly.proofs.program.modules.Goals as goal

pub add_start-requires-clause-entries : goal.add_start-requires-clause-entries
add_start-requires-clause-entries c =
    list_fits c.args.states.now c.loop-number.number c.get-list.result (looked_up c.args.states.now c.loop-number.number c.get-list.result c.get-list.ensures.lookup) c.requires

pub loop-number-preserved : goal.loop-number-preserved
loop-number-preserved c =
    let n = c.loop-number.number in
    let same = ap (map deref_pair) c.deref-names-items.ensures.value ∙ c.in_ok-starts.ensures in
    modules_more c.args.grammar.now c.args.states.now n (flat_map items c.loop-number.nodes.items) (flat_map items c.add_start.new.nodes.items) _ _
    (named_at c.deref-names-items.result.now c.args.grammar.now.start_nonterminals.entries n c.names-item.result same c.loop-number-test.true c.names-item.is)
    (looked_up c.args.states.now n c.get-list.result c.get-list.ensures.lookup)
    c.loop-number.invariant c.in_ok-add_start.ensures
