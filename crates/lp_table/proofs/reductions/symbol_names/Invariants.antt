-- The names so far.
use Rattle.std.proofs.Common.{◌≡◌, map}
use Rattle.std.specs.List.{range_with_len}
use Rattle.lp_table.specs.ReductionLines.{symbol_name}
use Rattle.lp_table.proofs.reductions.symbol_names.Given as goal

abbrev pub invariant-loop-symbol : goal.invariant-loop-symbol
invariant-loop-symbol l = l.names.items ≡ map (symbol_name l.prefix) (range_with_len 0 l.symbol)
