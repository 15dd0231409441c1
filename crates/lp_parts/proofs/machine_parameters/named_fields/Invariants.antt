-- The fields so far, and those to come.
use Rattle.std.proofs.Common.{◌≡◌, ◌++◌, drop, map}
use Rattle.lp_parts.specs.MachineParameters.{field_tree, fields_from}
use Rattle.lp_parts.proofs.machine_parameters.named_fields.Given as goal

abbrev pub invariant-loop-parameter : goal.invariant-loop-parameter
invariant-loop-parameter l =
    map field_tree l.fields.items ++ fields_from l.prefix l.next (drop l.parameter-index l.parameters)
    ≡ fields_from l.prefix l.first l.parameters
