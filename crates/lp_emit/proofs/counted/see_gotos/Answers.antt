use Rattle.std.proofs.Common.{All, subst}
use Rattle.std.proofs.lemmas.List.{take_all}
use Rattle.std.proofs.lemmas.List.Elements.{All-more}
use Rattle.lp_back_end_laws.specs.Filled.InMemory.{HasOrderedGotos}
use Rattle.lp_emit.proofs.counted.see_gotos.Goals as goal

pub loop-state-preserved : goal.loop-state-preserved
loop-state-preserved c =
    let x = c.state-item.result in
    All-more HasOrderedGotos c.args.states.now c.loop-state.state-index x c.loop-state-test.true c.loop-state.invariant (subst HasOrderedGotos c.state-item.is c.len-gotos.ensures.ordered)

pub returns : goal.returns
returns c = subst (All HasOrderedGotos) (take_all c.loop-state.state-index c.args.states.now c.loop-state-test.false) c.loop-state.invariant
