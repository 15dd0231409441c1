-- The gotos of the lists so far are in order.
use Rattle.std.proofs.Common.{take}
use Rattle.lp_back_end_laws.specs.Filled.InMemory.{AreStatesInMemory}
use Rattle.lp_emit.proofs.counted.see_states.Given as goal

abbrev pub invariant-loop-list : goal.invariant-loop-list
invariant-loop-list l = AreStatesInMemory (take l.list-index l.states)
