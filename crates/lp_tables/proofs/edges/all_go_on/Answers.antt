use Rattle.std.proofs.Common.{◌≡◌, refl, arith, Some, slice_get}
use Rattle.std.proofs.lemmas.Option.{slice_get_read}
use Rattle.lp_repr.specs.declared.lr1.Item.{Item}
use Rattle.lp_tables.specs.Edges.{GoesOn}
use Rattle.lp_tables.proofs.Lists.{each_more, fails_here, all_pass, not_so}
use Rattle.lp_tables.proofs.edges.all_go_on.Goals as goal

pub returns-then-not-goes_on : goal.returns-then-not-goes_on
returns-then-not-goes_on c =
    let P = λ (item : Item). GoesOn c.args.tables.now.rules.all.items c.args.tables.now.states.now c.args.kind c.args.edges.now item.production item.index in
    let xs = c.args.items.now in
    let x = c.item-item.result in
    let at : slice_get xs c.loop-item.item-index ≡ Some x = slice_get_read xs _ c.loop-item.item-index x refl (omega arith) c.item-item.is in
    fails_here P xs c.loop-item.item-index x at (not_so c.goes_on.result c.goes_on.ensures c.if-not-goes_on.true)

pub loop-item-preserved : goal.loop-item-preserved
loop-item-preserved c =
    let P = λ (item : Item). GoesOn c.args.tables.now.rules.all.items c.args.tables.now.states.now c.args.kind c.args.edges.now item.production item.index in
    let xs = c.args.items.now in
    let x = c.item-item.result in
    let at : slice_get xs c.loop-item.item-index ≡ Some x = slice_get_read xs _ c.loop-item.item-index x refl (omega arith) c.item-item.is in
    each_more P xs c.loop-item.item-index x at c.loop-item.invariant (c.goes_on.ensures.0 c.if-not-goes_on.false)

pub returns : goal.returns
returns c =
    let P = λ (item : Item). GoesOn c.args.tables.now.rules.all.items c.args.tables.now.states.now c.args.kind c.args.edges.now item.production item.index in
    all_pass P c.args.items.now c.loop-item.item-index (omega arith) c.loop-item.invariant
