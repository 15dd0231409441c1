use Rattle.std.proofs.Common.{◌≡◌, take}
use Rattle.lp_parts.specs.Entries.{action_entries}
use Rattle.lp_parts.proofs.entries.action_table_entries.Given as goal

abbrev pub invariant-loop-state : goal.invariant-loop-state
invariant-loop-state l = l.entries.items ≡ action_entries l.terminals (take l.state-index l.states)
