-- The lifetimes and the others so far.
use Rattle.std.proofs.Common.{◌≡◌}
use Rattle.std.specs.List.{flat_map}
use Rattle.lp_parts.specs.MachineParameters.{if_id, if_lifetime}
use Rattle.lp_parts.proofs.machine_parameters.lifetimes_first.Given as goal

abbrev pub invariant-loop-parameter : goal.invariant-loop-parameter
invariant-loop-parameter l = record {
  lifetimes : l.lifetimes.items ≡ flat_map if_lifetime l.yielded;
  ids : l.ids.items ≡ flat_map if_id l.yielded;
}
