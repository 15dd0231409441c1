use Rattle.std.proofs.Common.{◌≡◌}
use Rattle.lp_bodies.specs.Actions.{takes}
use Rattle.lp_bodies.proofs.action.takes.Given as goal

abbrev pub invariant-loop-slot : goal.invariant-loop-slot
invariant-loop-slot l = l.args.items ≡ takes l.slot
