use Rattle.std.proofs.Common.{◌-◌, ◌<◌, take}
use Rattle.std.specs.List.{AllByRecursion}
use Rattle.lp_repr.specs.declared.lr1.Item.{Item}
use Rattle.lp_tables.specs.Edges.{CameOver}
use Rattle.lp_tables.proofs.edges.came_over.Given as goal

abbrev pub invariant-loop-item : goal.invariant-loop-item
invariant-loop-item l =
    AllByRecursion (λ (item : Item). 0 < item.index → CameOver l.rules.all.items l.set l.kind l.number item.production (item.index - 1)) (take l.item-index l.reached)
