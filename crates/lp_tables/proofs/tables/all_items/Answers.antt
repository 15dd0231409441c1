use Rattle.std.proofs.Common.{◌+◌, ◌++◌, ◌∷◌, [], ◌∙◌, ap, sym, subst, arith, take}
use Rattle.std.specs.List.{AllZip}
use Rattle.std.proofs.lemmas.List.{take_all, take_more}
use Rattle.lp_repr.specs.declared.lr1.Lr1State.{Lr1State}
use Rattle.lp_tables.specs.Gathering.{Describes}
use Rattle.lp_tables.proofs.Described.{zip_more, described}
use Rattle.lp_tables.proofs.tables.all_items.Goals as goal

pub loop-state-preserved : goal.loop-state-preserved
loop-state-preserved c =
    let R = Describes c.args.rules.now.all.items in
    let ss = c.args.states.now in
    let i = c.loop-state.state-index in
    let x = c.state-item.result in
    let k = c.in_ok-state_items.field-0 in
    subst (AllZip R (take (i + 1) ss)) (sym c.in_ok-push.ensures.items)
    (subst (λ xs. AllZip R xs (c.loop-state.all.items ++ k ∷ [])) (sym (take_more ss i x (omega arith) ∙ ap (λ (y : Lr1State). take i ss ++ y ∷ []) (sym c.state-item.is))) (zip_more R (take i ss) c.loop-state.all.items x k c.loop-state.invariant c.in_ok-state_items.ensures))

pub returns : goal.returns
returns c =
    let rules = c.args.rules.now.all.items in
    described rules c.args.states.now c.loop-state.all.items (subst (λ ss. AllZip (Describes rules) ss c.loop-state.all.items) (take_all c.loop-state.state-index c.args.states.now (omega arith)) c.loop-state.invariant)
