use Rattle.std.proofs.Common.{◌≡◌, ◌++◌, map}
use Rattle.std.specs.List.{range_with_len}
use Rattle.lp_parts.specs.Entries.{action_entry}
use Rattle.lp_parts.proofs.entries.push_row.Given as goal

abbrev pub invariant-loop-terminal : goal.invariant-loop-terminal
invariant-loop-terminal l =
    l.entries.items ≡ l.initial.entries.items ++ map (action_entry l.state) (range_with_len 0 l.terminal)
