use Rattle.std.proofs.Common.{◌≡◌, ◌++◌, take}
use Rattle.std.specs.List.{flat_map}
use Rattle.lp_repr.proofs.free_variables.push_each.Given as goal

abbrev pub invariant-loop-one : goal.invariant-loop-one
invariant-loop-one g l =
    l.free.items ≡ l.initial.free.items ++ flat_map (g.T.FreeVariables.free_of l.type_parameters) (take l.one-index l.all)
