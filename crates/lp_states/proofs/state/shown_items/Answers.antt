use Rattle.std.proofs.Common.{[], ◌∷◌, append_assoc, append-nil, refl}
use Rattle.std.specs.Map.Iter.{deref_pair}
use Rattle.std.proofs.lemmas.Map.Iter.{rest_more, rest_all}
use Rattle.lp_repr.specs.declared.lr1.Item.{Item}
use Rattle.lp_states.proofs.state.shown_items.Goals as goal

pub loop-item-preserved : goal.loop-item-preserved
loop-item-preserved c =
    let rest = rest_more deref_pair c.loop-item.item-iterator c.next.new.self c.next.result (c.in-Some.item, c.in-Some.lookaheads) c.in-Some.is c.next.ensures.steps in
    let i : Item = record { production = c.in-Some.item.now.0; index = c.in-Some.item.now.1; lookahead = c.in_ok-tokens.field-0.items } in
    λ more h. let before = rw rest at (c.loop-item.invariant (i ∷ more)) in rw (c.in_ok-push.ensures.items, append_assoc) (before ((refl, refl, c.in_ok-tokens.ensures), h))

pub returns : goal.returns
returns c =
    let done = rest_all deref_pair c.loop-item.item-iterator c.next.new.self c.next.result c.in-None.is c.next.ensures.steps in
    rw append-nil at (rw done at (c.loop-item.invariant []) tt)
