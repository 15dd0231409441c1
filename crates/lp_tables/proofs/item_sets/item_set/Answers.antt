use Rattle.std.proofs.Common.{◌∙◌, ◌||◌, sym, ap, take, arith}
use Rattle.std.specs.BTreeSet.{contains}
use Rattle.std.specs.List.{list_any}
use Rattle.std.specs.Ordering.{is_eq}
use Rattle.std.proofs.lemmas.List.{take_all}
use Rattle.std.proofs.lemmas.List.Folds.{list_any_more}
use Rattle.lp_repr.specs.declared.lr1.Item.{Item}
use Rattle.lp_tables.specs.ItemSets.{item_cmp}
use Rattle.lp_tables.proofs.Sets.{set_of, one_more}
use Rattle.lp_tables.proofs.item_sets.item_set.Goals as goal

pub loop-item-preserved : goal.loop-item-preserved
loop-item-preserved c = λ q.
    let x = c.item-item.result in
    let test = λ (i : Item). is_eq (item_cmp (i.production, i.index) q) in
    one_more (contains item_cmp c.insert.new.self q) (is_eq (item_cmp (x.production, x.index) q)) (contains item_cmp c.loop-item.set q) (c.in_ok-insert.ensures.updates.0 q)
    ∙ (ap (λ b. b || is_eq (item_cmp (x.production, x.index) q)) (c.loop-item.invariant q) ∙ (ap (λ y. list_any test (take c.loop-item.item-index c.args.items.now) || test y) c.item-item.is ∙ sym (list_any_more test c.args.items.now c.loop-item.item-index x (omega arith))))

pub returns : goal.returns
returns c =
    let items = c.args.items.now in
    set_of items c.loop-item.set (λ q. c.loop-item.invariant q ∙ ap (list_any (λ (i : Item). is_eq (item_cmp (i.production, i.index) q))) (take_all c.loop-item.item-index items (omega arith)))
