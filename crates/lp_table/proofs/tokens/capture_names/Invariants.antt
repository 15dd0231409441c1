-- The names so far.
use Rattle.std.proofs.Common.{◌≡◌, map}
use Rattle.std.specs.List.{range_with_len}
use Rattle.lp_table.specs.TokenLines.{capture_name}
use Rattle.lp_table.proofs.tokens.capture_names.Given as goal

abbrev pub invariant-loop-number : goal.invariant-loop-number
invariant-loop-number l = l.names.items ≡ map (capture_name l.prefix) (range_with_len 0 l.number)
