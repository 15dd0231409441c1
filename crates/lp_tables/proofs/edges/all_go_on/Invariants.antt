use Rattle.std.proofs.Common.{take}
use Rattle.std.specs.List.{AllByRecursion}
use Rattle.lp_repr.specs.declared.lr1.Item.{Item}
use Rattle.lp_tables.specs.Edges.{GoesOn}
use Rattle.lp_tables.proofs.edges.all_go_on.Given as goal

abbrev pub invariant-loop-item : goal.invariant-loop-item
invariant-loop-item l =
    AllByRecursion (λ (item : Item). GoesOn l.tables.rules.all.items l.tables.states.now l.kind l.edges item.production item.index) (take l.item-index l.items)
