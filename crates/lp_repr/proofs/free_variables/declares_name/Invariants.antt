use Rattle.std.proofs.Common.{◌≡◌, false, take}
use Rattle.std.specs.List.{list_any}
use Rattle.lp_repr.specs.FreeVariables.{same_parameter}
use Rattle.lp_repr.specs.declared.parse_tree.TypeParameter.TheVariants as kind
use Rattle.lp_repr.proofs.free_variables.declares_name.Given as goal

abbrev pub invariant-loop-parameter : goal.invariant-loop-parameter
invariant-loop-parameter l =
    list_any (same_parameter (kind.Id l.name)) (take l.parameter-index l.type_parameters) ≡ false
