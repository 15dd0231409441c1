-- The fields so far.
use Rattle.std.proofs.Common.{◌≡◌, map, take}
use Rattle.lp_build.specs.Machine.{field_row}
use Rattle.lp_table.specs.Machines.{field_line}
use Rattle.lp_table.proofs.machine.fields_of.Given as goal

abbrev pub invariant-loop-parameter : goal.invariant-loop-parameter
invariant-loop-parameter l = map field_row l.fields.items ≡ map field_line (take l.parameter-index l.parameters)
