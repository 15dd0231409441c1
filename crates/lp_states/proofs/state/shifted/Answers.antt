use Rattle.std.proofs.Common.{◌≡◌, Some, refl, sym, ap, ◌∙◌}
use Rattle.std.specs.Map.Iter.{deref_pair}
use Rattle.std.proofs.lemmas.Map.Iter.{rest_more, rest_all}
use Rattle.lp_repr.specs.Closure.{next_symbol}
use Rattle.lp_repr.specs.declared.numbering.SymbolNumber.TheVariants.{Terminal}
use Rattle.lp_sets.specs.declared.tokens.TokenSet.{TokenSet}
use Rattle.lp_states.specs.Actions.{Entry}
use Rattle.lp_states.proofs.ActionSteps.{shifted_begun, shifted_found, shifted_more, has_inserted, both_ways}
use Rattle.lp_states.proofs.state.shifted.Goals as goal

pub loop-item-init : goal.loop-item-init
loop-item-init c =
    let all = c.into_iter-item-iterator.ensures.into_iter_gives in
    λ t. rw all.0 (shifted_begun c.args.rules.now.all.items c.new-shifted.result c.args.items.now.entries t (c.new-shifted.ensures t))

pub loop-item-preserved-in-Terminal-1 : goal.loop-item-preserved-in-Terminal-1
loop-item-preserved-in-Terminal-1 c =
    let rest = rest_more deref_pair c.loop-item.item-iterator c.next.new.self c.next.result (c.in-Some.item, c.in-Some.field-0-1) c.in-Some.is c.next.ensures.steps in
    let e : Entry = (c.in-Some.item.now, c.in-Some.field-0-1.now) in
    let n = c.in-Some-Terminal.number in
    let new : TokenSet = record { terminals = c.insert.new.self; end = c.loop-item.shifted.end } in
    let next : next_symbol c.args.rules.now.all.items e.0.0 e.0.1 ≡ Some (Terminal n) = sym c.next-in-loop-item.ensures ∙ c.in-Some-Terminal.is ∙ ap Some c.in-Some-Terminal.field-0-is in
    λ t. both_ways (shifted_more c.args.rules.now.all.items e c.next.new.self t c.loop-item.shifted new n next (has_inserted c.loop-item.shifted new n c.in_ok-insert.ensures.added refl t)) (rw rest at (c.loop-item.invariant t))

pub returns : goal.returns
returns c =
    let done = rest_all deref_pair c.loop-item.item-iterator c.next.new.self c.next.result c.in-None.is c.next.ensures.steps in
    λ t. shifted_found c.args.rules.now.all.items c.loop-item.shifted c.args.items.now.entries t (rw done at (c.loop-item.invariant t))
