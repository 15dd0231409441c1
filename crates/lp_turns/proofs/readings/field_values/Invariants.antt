use Rattle.std.proofs.Common.{◌≡◌, [], drop}
use Rattle.lp_turns.specs.Readings.{field_values}
use Rattle.lp_turns.proofs.readings.field_values.Given as goal

-- what the fields that are left make of the values so far
abbrev pub invariant-loop-field : goal.invariant-loop-field
invariant-loop-field l = field_values l.values.items (drop l.field-index l.fields) ≡ field_values [] l.fields
