use Rattle.lp_states.proofs.MovedSteps.{MovedSoFar}
use Rattle.lp_states.proofs.state.advance.Given as goal

abbrev pub invariant-loop-item : goal.invariant-loop-item
invariant-loop-item l = MovedSoFar l.rules.all.items l.items l.item-iterator l.found
