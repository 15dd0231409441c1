use Rattle.std.proofs.Common.{◌≡◌, map}
use Rattle.std.specs.List.{filter_map}
use Rattle.std.specs.Map.Iter.{deref}
use Rattle.lp_states.specs.Naming.{name_at}
use Rattle.lp_states.proofs.names.Names.path.Given as goal

abbrev pub invariant-loop-number : goal.invariant-loop-number
invariant-loop-number l = l.path.items ≡ filter_map (name_at l.self) (map deref l.yielded)
