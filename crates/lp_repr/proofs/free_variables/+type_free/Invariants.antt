use Rattle.std.proofs.Common.{◌≡◌, ◌++◌, take}
use Rattle.std.specs.List.{flat_map}
use Rattle.lp_repr.specs.FreeVariables.{free_in_type}
use Rattle.lp_repr.proofs.free_variables.+type_free.Given as goal

abbrev pub invariant-push_types-loop-ty : goal.invariant-push_types-loop-ty
invariant-push_types-loop-ty l =
    l.free.items ≡ l.initial.free.items ++ flat_map (free_in_type l.type_parameters) (take l.ty-index l.types)
