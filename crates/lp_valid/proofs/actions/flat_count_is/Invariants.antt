use Rattle.std.proofs.Common.{◌≡◌, ◌==◌, drop, sum_by}
use Rattle.lp_valid.specs.ActionRules.{symbol_count}
use Rattle.lp_valid.proofs.actions.flat_count_is.Given as goal

abbrev pub invariant-loop-symbol : goal.invariant-loop-symbol
invariant-loop-symbol l = (sum_by symbol_count (drop l.symbol-index l.symbols) == l.left) ≡ (sum_by symbol_count l.symbols == l.count)
