use Rattle.std.proofs.Common.{◌≡◌, ◌++◌, List, OnOk, subst}
use Rattle.std.specs.List.{flat_map}
use Rattle.lp_tree.specs.ProgramTree.{Item, items}
use Rattle.lp_state_parts.specs.Gotos.{arms_of, column_from}
use Rattle.lp_table.proofs.CatchAll.{printed_is}
use Rattle.lp_table.proofs.tables.push_gotos.Goals as goal

pub returns : goal.returns
returns c =
    let arms = arms_of (column_from c.args.number 0 c.args.states.now) in
    let e = printed_is c.args.number arms c.in_ok-gotos.gotos c.in_ok-gotos.ensures.arms in
    subst (λ (l : List Item). OnOk c.push_printed.result (flat_map items c.push_printed.new.nodes.items ≡ flat_map items c.args.nodes.now.items ++ l)) e c.push_printed.ensures
