use Rattle.std.proofs.Common.{map, take}
use Rattle.std.specs.Map.Iter.{deref}
use Rattle.lp_states.specs.Naming.{NamesRightly}
use Rattle.lp_states.proofs.NamingSteps.{AreNamed}
use Rattle.lp_states.proofs.names.Names.new.Given as goal

abbrev pub invariant-loop-production : goal.invariant-loop-production
invariant-loop-production l = record {
  rightly : NamesRightly l.grammar l.names;
  named : AreNamed l.grammar l.names (take l.production-index (map deref l.production-items));
}
