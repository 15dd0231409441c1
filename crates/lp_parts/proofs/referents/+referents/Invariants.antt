-- What stood there, and those of the types so far.
use Rattle.std.proofs.Common.{◌≡◌, ◌++◌, map, take}
use Rattle.std.specs.List.{flat_map}
use Rattle.std.specs.Map.Iter.{deref}
use Rattle.lp_parts.specs.MachineParameters.{referents}
use Rattle.lp_parts.proofs.referents.+referents.Given as goal

abbrev pub invariant-push_each-loop-ty : goal.invariant-push_each-loop-ty
invariant-push_each-loop-ty l =
    map deref l.all.items ≡ map deref l.initial.all.items ++ flat_map referents (take l.ty-index l.types)
