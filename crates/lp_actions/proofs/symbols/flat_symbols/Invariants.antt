-- The symbols so far.
use Rattle.std.proofs.Common.{◌≡◌, map, take}
use Rattle.std.specs.List.{flat_map}
use Rattle.std.specs.Map.Iter.{deref}
use Rattle.lp_actions.specs.Parameters.{symbols_of}
use Rattle.lp_actions.proofs.symbols.flat_symbols.Given as goal

abbrev pub invariant-loop-symbol : goal.invariant-loop-symbol
invariant-loop-symbol l = map deref l.flat.items ≡ flat_map symbols_of (take l.symbol-index l.symbols)
