use Rattle.std.proofs.Common.{sym, ap, ◌∙◌}
use Rattle.std.specs.Option.{is_some}
use Rattle.std.specs.Map.Iter.{deref_pair}
use Rattle.std.proofs.lemmas.Bool.{false≢true}
use Rattle.std.proofs.lemmas.Map.Iter.{rest_more, rest_all}
use Rattle.lp_states.specs.Actions.{Entry}
use Rattle.lp_states.proofs.ActionSteps.{twice_begun, twice_found, twice_more, twice_other, both_ways, none_from}
use Rattle.lp_states.proofs.state.twice.Goals as goal

pub loop-item-init : goal.loop-item-init
loop-item-init c =
    let all = c.into_iter-item-iterator.ensures.into_iter_gives in
    λ t. rw all.0 (twice_begun c.args.rules.now.all.items c.new-twice.result c.in_ok-once.once c.args.items.now.entries t (c.new-twice.ensures t) (c.in_ok-once.ensures t))

pub loop-item-preserved : goal.loop-item-preserved
loop-item-preserved c =
    let rest = rest_more deref_pair c.loop-item.item-iterator c.next.new.self c.next.result (c.in-Some.item, c.in-Some.lookaheads) c.in-Some.is c.next.ensures.steps in
    let e : Entry = (c.in-Some.item.now, c.in-Some.lookaheads.now) in
    λ t. let other = twice_other c.args.rules.now.all.items e c.next.new.self c.loop-item.twice c.loop-item.once t (λ h. false≢true (sym (ap is_some (c.next-in-loop-item.ensures ∙ h)) ∙ c.if-is_none.ensures)) in both_ways (other.1, other.0) (rw rest at (c.loop-item.invariant t))

pub loop-item-preserved-in_ok-union : goal.loop-item-preserved-in_ok-union
loop-item-preserved-in_ok-union c =
    let rest = rest_more deref_pair c.loop-item.item-iterator c.next.new.self c.next.result (c.in-Some.item, c.in-Some.lookaheads) c.in-Some.is c.next.ensures.steps in
    let e : Entry = (c.in-Some.item.now, c.in-Some.lookaheads.now) in
    λ t. let more = twice_more c.args.rules.now.all.items e c.next.new.self c.loop-item.twice c.loop-item.once t (sym c.next-in-loop-item.ensures ∙ none_from c.next-in-loop-item.result c.if-is_none.ensures) in rw (c.in_ok-add_common.ensures, c.in_ok-union.ensures.added) (both_ways (more.1, more.0) (rw rest at (c.loop-item.invariant t)))

pub returns : goal.returns
returns c =
    let done = rest_all deref_pair c.loop-item.item-iterator c.next.new.self c.next.result c.in-None.is c.next.ensures.steps in
    λ t. twice_found c.args.rules.now.all.items c.loop-item.twice c.loop-item.once c.args.items.now.entries t (rw done at (c.loop-item.invariant t))
