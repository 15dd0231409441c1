use Rattle.std.proofs.Common.{◌≡◌, take}
use Rattle.lp_parts.specs.Entries.{end_entries}
use Rattle.lp_parts.proofs.entries.end_table_entries.Given as goal

abbrev pub invariant-loop-state : goal.invariant-loop-state
invariant-loop-state l = l.entries.items ≡ end_entries (take l.state-index l.states)
