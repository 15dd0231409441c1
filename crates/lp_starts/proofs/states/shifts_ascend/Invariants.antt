use Rattle.std.proofs.Common.{take}
use Rattle.lp_starts.specs.Tables.{ShiftsAscend}
use Rattle.lp_starts.proofs.states.shifts_ascend.Given as goal

abbrev pub invariant-loop-state : goal.invariant-loop-state
invariant-loop-state l = ShiftsAscend (take l.state-index l.states)
