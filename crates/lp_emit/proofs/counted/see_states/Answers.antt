use Rattle.std.proofs.Common.{All, subst}
use Rattle.std.proofs.lemmas.List.{take_all}
use Rattle.std.proofs.lemmas.List.Elements.{All-more}
use Rattle.lp_repr.specs.declared.lr1.StartStates.{StartStates}
use Rattle.lp_back_end_laws.specs.Filled.InMemory.{AreStatesInMemory, HasOrderedGotos}
use Rattle.lp_emit.proofs.counted.see_states.Goals as goal

pub loop-list-preserved : goal.loop-list-preserved
loop-list-preserved c =
    let x = c.list-item.result in
    let ordered : All HasOrderedGotos x.states = subst (All HasOrderedGotos) c.as_slice.ensures c.see_gotos.ensures in
    All-more (λ (list : StartStates). All HasOrderedGotos list.states) c.args.states.now c.loop-list.list-index x c.loop-list-test.true c.loop-list.invariant (subst (λ (list : StartStates). All HasOrderedGotos list.states) c.list-item.is ordered)

pub returns : goal.returns
returns c = subst AreStatesInMemory (take_all c.loop-list.list-index c.args.states.now c.loop-list-test.false) c.loop-list.invariant
