use Rattle.std.proofs.Common.{◌≡◌, ◌++◌, take}
use Rattle.lp_lower.proofs.combine.push_symbols.Given as goal

abbrev pub invariant-loop-symbol : goal.invariant-loop-symbol
invariant-loop-symbol l = l.all ≡ l.initial.all ++ take l.symbol-index l.symbols
