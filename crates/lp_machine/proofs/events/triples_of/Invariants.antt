use Rattle.std.proofs.Common.{◌≡◌, map}
use Rattle.lp_machine.specs.RunEnds.{spanned_value}
use Rattle.lp_machine.proofs.events.triples_of.Given as goal

abbrev pub invariant-loop-start : goal.invariant-loop-start
invariant-loop-start l = map spanned_value l.terms.items ≡ l.yielded
