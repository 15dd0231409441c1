use Rattle.std.proofs.Common.{◌≡◌, refl, arith, Some, slice_get, ◌-◌, ◌<◌}
use Rattle.std.proofs.lemmas.Option.{slice_get_read}
use Rattle.lp_repr.specs.declared.lr1.Item.{Item}
use Rattle.lp_tables.specs.Edges.{CameOver}
use Rattle.lp_tables.proofs.Lists.{each_more, fails_here, all_pass, not_so}
use Rattle.lp_tables.proofs.edges.came_over.Goals as goal

pub returns-then-not-came : goal.returns-then-not-came
returns-then-not-came c =
    let P = λ (item : Item). 0 < item.index → CameOver c.args.rules.now.all.items c.args.set.now c.args.kind c.args.number item.production (item.index - 1) in
    let xs = c.args.reached.now in
    let x = c.item-item.result in
    let at : slice_get xs c.loop-item.item-index ≡ Some x = slice_get_read xs _ c.loop-item.item-index x refl (omega arith) c.item-item.is in
    fails_here P xs c.loop-item.item-index x at (not_so c.came.result c.came.ensures c.if-not-came.true)

pub loop-item-preserved : goal.loop-item-preserved
loop-item-preserved c =
    let P = λ (item : Item). 0 < item.index → CameOver c.args.rules.now.all.items c.args.set.now c.args.kind c.args.number item.production (item.index - 1) in
    let xs = c.args.reached.now in
    let x = c.item-item.result in
    let at : slice_get xs c.loop-item.item-index ≡ Some x = slice_get_read xs _ c.loop-item.item-index x refl (omega arith) c.item-item.is in
    each_more P xs c.loop-item.item-index x at c.loop-item.invariant (c.came.ensures.0 c.if-not-came.false)

pub returns : goal.returns
returns c =
    let P = λ (item : Item). 0 < item.index → CameOver c.args.rules.now.all.items c.args.set.now c.args.kind c.args.number item.production (item.index - 1) in
    all_pass P c.args.reached.now c.loop-item.item-index (omega arith) c.loop-item.invariant
