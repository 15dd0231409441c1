-- The names so far.
use Rattle.std.proofs.Common.{◌≡◌, take}
use Rattle.std.specs.List.{flat_map}
use Rattle.lp_table.specs.TableLines.{terminal_name}
use Rattle.lp_table.proofs.tables.terminal_names.Given as goal

abbrev pub invariant-loop-terminal : goal.invariant-loop-terminal
invariant-loop-terminal l = l.names.items ≡ flat_map terminal_name (take l.terminal-index l.all)
