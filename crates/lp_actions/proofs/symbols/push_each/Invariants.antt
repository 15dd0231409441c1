-- What stood there, and the symbols so far.
use Rattle.std.proofs.Common.{◌≡◌, ◌++◌, map, take}
use Rattle.std.specs.Map.Iter.{deref}
use Rattle.lp_actions.proofs.symbols.push_each.Given as goal

abbrev pub invariant-loop-symbol : goal.invariant-loop-symbol
invariant-loop-symbol l = map deref l.flat.items ≡ map deref l.initial.flat.items ++ take l.symbol-index l.symbols
