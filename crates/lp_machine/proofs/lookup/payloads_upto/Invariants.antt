use Rattle.std.proofs.Common.{◌≡◌}
use Rattle.lp_machine.specs.Lookup.{payloads_upto}
use Rattle.lp_machine.proofs.lookup.payloads_upto.Given as goal

abbrev pub invariant-loop-j : goal.invariant-loop-j
invariant-loop-j l = l.texts.items ≡ payloads_upto l.j l.token
