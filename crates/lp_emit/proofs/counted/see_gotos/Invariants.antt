-- The gotos of the states so far are in order.
use Rattle.std.proofs.Common.{take}
use Rattle.std.specs.Prelude.{All}
use Rattle.lp_back_end_laws.specs.Filled.InMemory.{HasOrderedGotos}
use Rattle.lp_emit.proofs.counted.see_gotos.Given as goal

abbrev pub invariant-loop-state : goal.invariant-loop-state
invariant-loop-state l = All HasOrderedGotos (take l.state-index l.states)
