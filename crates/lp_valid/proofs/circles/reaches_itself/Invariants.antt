use Rattle.std.proofs.Common.{◌+◌, not, vec_len}
use Rattle.std.specs.List.{count_by}
use Rattle.lp_valid.proofs.Walks.{Walks}
use Rattle.lp_valid.proofs.circles.reaches_itself.Given as goal

abbrev pub invariant-loop-reached : goal.invariant-loop-reached
invariant-loop-reached l = Walks l.actions l.number l.state

abbrev pub decreases-loop-reached : goal.decreases-loop-reached
decreases-loop-reached l = count_by not l.state.reached.items + vec_len l.state.work
