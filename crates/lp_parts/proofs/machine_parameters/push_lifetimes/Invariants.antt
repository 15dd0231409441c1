-- The parameters so far, and the lifetimes to come.
use Rattle.std.proofs.Common.{◌≡◌, ◌++◌, drop, map}
use Rattle.std.specs.Map.Iter.{deref}
use Rattle.lp_parts.specs.MachineParameters.{lifetimes_from}
use Rattle.lp_parts.proofs.machine_parameters.push_lifetimes.Given as goal

abbrev pub invariant-loop-referent : goal.invariant-loop-referent
invariant-loop-referent l =
    l.generics.items ++ lifetimes_from l.prefix l.number (map deref (drop l._referent-index l.referents))
    ≡ l.initial.generics.items ++ lifetimes_from l.prefix l.first (map deref l.referents)
