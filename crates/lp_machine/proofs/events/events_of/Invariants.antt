use Rattle.std.proofs.Common.{◌≡◌, map}
use Rattle.lp_machine.specs.RunEnds.{call_of}
use Rattle.lp_machine.proofs.events.events_of.Given as goal

abbrev pub invariant-loop-call : goal.invariant-loop-call
invariant-loop-call l = map call_of l.events.items ≡ l.yielded
