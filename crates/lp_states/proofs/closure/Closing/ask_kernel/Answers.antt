use Rattle.std.specs.Map.Iter.{deref_pair}
use Rattle.std.proofs.lemmas.Map.Iter.{rest_more, rest_all, btree_map_turn}
use Rattle.lp_states.proofs.AskingSteps.{kernel_none, kernel_more, kernel_covered}
use Rattle.lp_states.proofs.ItemOrder.{item_total}
use Rattle.lp_states.proofs.closure.Closing.ask_kernel.Goals as goal

pub loop-item-init : goal.loop-item-init
loop-item-init c =
    let all = c.into_iter-item-iterator.ensures.into_iter_gives in
    rw all.0 (kernel_none c.args.self.now.rules.all.items c.args.kernel.now c.new-asked.result.sets c.new-asked.result.work.items all.5 c.new-asked.ensures.sets)

pub loop-item-preserved : goal.loop-item-preserved
loop-item-preserved c =
    let all = c.into_iter-item-iterator.ensures.into_iter_gives in
    let turn = btree_map_turn deref_pair c.loop-item.yielded c.into_iter-item-iterator.result c.loop-item.item-iterator c.next.new.self c.next.result (c.in-Some.item, c.in-Some.lookaheads) c.loop-item.yielded_by c.in-Some.is c.next.ensures.steps item_total c.args.kernel.now all.0 all.5 in
    let rest = rest_more deref_pair c.loop-item.item-iterator c.next.new.self c.next.result (c.in-Some.item, c.in-Some.lookaheads) c.in-Some.is c.next.ensures.steps in
    kernel_more c.args.self.now.rules.all.items c.args.kernel.now c.in-Some.item.now.0 c.in-Some.item.now.1 c.in-Some.lookaheads.now c.next.new.self _ _ _ _ turn.1 (rw rest at c.loop-item.invariant) c.in_ok-ask_item.ensures.widens c.in_ok-ask_item.ensures.covers (c.in_ok-ask_item.ensures.sound c.args.kernel.now)

pub returns : goal.returns
returns c =
    let all = c.into_iter-item-iterator.ensures.into_iter_gives in
    let done = rest_all deref_pair c.loop-item.item-iterator c.next.new.self c.next.result c.in-None.is c.next.ensures.steps in
    let so_far = rw done at c.loop-item.invariant in
    record {
      covers = kernel_covered c.args.self.now.rules.all.items c.args.kernel.now c.loop-item.asked.sets c.loop-item.asked.work.items so_far;
      work = so_far.work;
      sound = so_far.sound;
      ordered = all.5;
    }
