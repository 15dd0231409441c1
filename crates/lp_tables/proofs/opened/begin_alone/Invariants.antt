use Rattle.std.proofs.Common.{◌≡◌, take}
use Rattle.std.specs.List.{AllByRecursion}
use Rattle.lp_repr.specs.declared.lr1.Item.{Item}
use Rattle.lp_tables.specs.Opening.{IsOpenedAt}
use Rattle.lp_tables.proofs.opened.begin_alone.Given as goal

abbrev pub invariant-loop-item : goal.invariant-loop-item
invariant-loop-item l =
    AllByRecursion (λ (item : Item). item.index ≡ 0 → IsOpenedAt l.rules.all.items l.marks item.production) (take l.item-index l.items)
