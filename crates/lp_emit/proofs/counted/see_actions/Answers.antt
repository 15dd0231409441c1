use Rattle.std.proofs.Common.{All, subst}
use Rattle.std.proofs.lemmas.List.{take_all}
use Rattle.std.proofs.lemmas.List.Elements.{All-more}
use Rattle.lp_back_end_laws.specs.Filled.InMemory.{IsActionInMemory}
use Rattle.lp_emit.proofs.counted.see_actions.Goals as goal

pub loop-action-preserved : goal.loop-action-preserved
loop-action-preserved c =
    let x = c.action-item.result in
    All-more IsActionInMemory c.args.actions.now c.loop-action.action-index x c.loop-action-test.true c.loop-action.invariant (subst IsActionInMemory c.action-item.is c.in_ok-see_kind.ensures)

pub returns-clause-kinds : goal.returns-clause-kinds
returns-clause-kinds c = subst (All IsActionInMemory) (take_all c.loop-action.action-index c.args.actions.now c.loop-action-test.false) c.loop-action.invariant
