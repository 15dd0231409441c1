-- The tree of a path is that of what it holds.
use Rattle.std.proofs.Common.{sym, ap, ◌∙◌}
use Rattle.lp_repr.proofs.TreeRows.{nominal_treed}
use Rattle.lp_parts.specs.MachineParameters.{parameter_tree}
use Rattle.lp_parts.proofs.machine_parameters.parameter_type.Goals as goal

pub returns-in_ok-type_of_name-in-Id : goal.returns-in_ok-type_of_name-in-Id
returns-in_ok-type_of_name-in-Id c =
    nominal_treed c.in_ok-type_of_name-in-Id.field-0
    ∙ c.in_ok-type_of_name-in-Id.ensures
    ∙ ap parameter_tree (sym c.in-Id.is)
