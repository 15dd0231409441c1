use Rattle.std.proofs.Common.{◌≡◌, refl, arith, Some, slice_get}
use Rattle.std.proofs.lemmas.Option.{slice_get_read}
use Rattle.lp_repr.specs.declared.lr1.Item.{Item}
use Rattle.lp_tables.specs.Opening.{IsOpenedAt}
use Rattle.lp_tables.proofs.Lists.{each_more, fails_here, all_pass, not_so}
use Rattle.lp_tables.proofs.opened.begin_alone.Goals as goal

pub returns-then-not-begins_alone : goal.returns-then-not-begins_alone
returns-then-not-begins_alone c =
    let P = λ (item : Item). item.index ≡ 0 → IsOpenedAt c.args.rules.now.all.items c.args.marks.now item.production in
    let xs = c.args.items.now in
    let x = c.item-item.result in
    let at : slice_get xs c.loop-item.item-index ≡ Some x = slice_get_read xs _ c.loop-item.item-index x refl (omega arith) c.item-item.is in
    fails_here P xs c.loop-item.item-index x at (not_so c.begins_alone.result c.begins_alone.ensures c.if-not-begins_alone.true)

pub loop-item-preserved : goal.loop-item-preserved
loop-item-preserved c =
    let P = λ (item : Item). item.index ≡ 0 → IsOpenedAt c.args.rules.now.all.items c.args.marks.now item.production in
    let xs = c.args.items.now in
    let x = c.item-item.result in
    let at : slice_get xs c.loop-item.item-index ≡ Some x = slice_get_read xs _ c.loop-item.item-index x refl (omega arith) c.item-item.is in
    each_more P xs c.loop-item.item-index x at c.loop-item.invariant (c.begins_alone.ensures.0 c.if-not-begins_alone.false)

pub returns : goal.returns
returns c =
    let P = λ (item : Item). item.index ≡ 0 → IsOpenedAt c.args.rules.now.all.items c.args.marks.now item.production in
    all_pass P c.args.items.now c.loop-item.item-index (omega arith) c.loop-item.invariant
