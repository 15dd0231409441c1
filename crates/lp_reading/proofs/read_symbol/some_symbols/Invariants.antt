use Rattle.std.proofs.Common.{[], ◌∷◌}
use Rattle.lp_reading.specs.Symbols.{linked_symbol}
use Rattle.lp_types.proofs.Lists.{ChainSoFar}
use Rattle.lp_types.specs.Left.{left}
use Rattle.lp_reading.proofs.read_symbol.some_symbols.Given as goal

-- the symbols so far
abbrev pub invariant-loop-turn : goal.invariant-loop-turn
invariant-loop-turn l = ChainSoFar (λ symbol. symbol ∷ []) linked_symbol (left l.fn.reader) l.list.items l.turn-end l.turn (left l.reader)
