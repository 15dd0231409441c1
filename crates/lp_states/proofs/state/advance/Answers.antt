use Rattle.std.proofs.Common.{◌∙◌, sym}
use Rattle.std.specs.Map.Iter.{deref_pair}
use Rattle.std.proofs.lemmas.Map.Iter.{rest_more, rest_all, btree_map_turn}
use Rattle.lp_states.proofs.ItemOrder.{item_total}
use Rattle.lp_states.proofs.MovedSteps.{moved_none, moved_all, moved_other, moved_more}
use Rattle.lp_states.proofs.state.advance.Goals as goal

pub loop-item-init : goal.loop-item-init
loop-item-init c =
    let all = c.into_iter-item-iterator.ensures.into_iter_gives in
    rw all.0 (moved_none c.args.rules.now.all.items c.args.items.now all.5 c.new-found.result c.new-found.ensures.ordered (λ x. rw c.new-found.ensures.empty))

pub loop-item-preserved-in-Continue-1 : goal.loop-item-preserved-in-Continue-1
loop-item-preserved-in-Continue-1 c =
    let all = c.into_iter-item-iterator.ensures.into_iter_gives in
    let turn = btree_map_turn deref_pair c.loop-item.yielded c.into_iter-item-iterator.result c.loop-item.item-iterator c.next.new.self c.next.result (c.in-Some.item, c.in-Some.lookaheads) c.loop-item.yielded_by c.in-Some.is c.next.ensures.steps item_total c.args.items.now all.0 all.5 in
    let rest = rest_more deref_pair c.loop-item.item-iterator c.next.new.self c.next.result (c.in-Some.item, c.in-Some.lookaheads) c.in-Some.is c.next.ensures.steps in
    moved_more c.args.rules.now.all.items c.args.items.now all.5 c.in-Some.item.now.0 c.in-Some.item.now.1 c.in-Some.lookaheads.now turn.1 c.next.new.self c.loop-item.found (rw rest at c.loop-item.invariant) c.in-Some-next.symbol (sym c.next-in-loop-item.ensures ∙ c.in-Some-next.is) c.add_moved.new.found c.in_ok-add_moved.ensures

pub loop-item-preserved : goal.loop-item-preserved
loop-item-preserved c =
    let all = c.into_iter-item-iterator.ensures.into_iter_gives in
    let turn = btree_map_turn deref_pair c.loop-item.yielded c.into_iter-item-iterator.result c.loop-item.item-iterator c.next.new.self c.next.result (c.in-Some.item, c.in-Some.lookaheads) c.loop-item.yielded_by c.in-Some.is c.next.ensures.steps item_total c.args.items.now all.0 all.5 in
    let rest = rest_more deref_pair c.loop-item.item-iterator c.next.new.self c.next.result (c.in-Some.item, c.in-Some.lookaheads) c.in-Some.is c.next.ensures.steps in
    moved_other c.args.rules.now.all.items c.args.items.now all.5 c.in-Some.item.now.0 c.in-Some.item.now.1 c.in-Some.lookaheads.now turn.1 c.next.new.self c.loop-item.found (rw rest at c.loop-item.invariant) (λ x h. c.in_default.not-Some x (c.next-in-loop-item.ensures ∙ h))

pub returns : goal.returns
returns c =
    let all = c.into_iter-item-iterator.ensures.into_iter_gives in
    let done = rest_all deref_pair c.loop-item.item-iterator c.next.new.self c.next.result c.in-None.is c.next.ensures.steps in
    moved_all c.args.rules.now.all.items c.args.items.now all.5 c.loop-item.found (rw done at c.loop-item.invariant)
