use Rattle.std.proofs.Common.{[], ◌∷◌}
use Rattle.lp_types.specs.Left.{left}
use Rattle.lp_types.specs.Names.{part}
use Rattle.lp_types.proofs.Lists.{ChainSoFar}
use Rattle.lp_types.proofs.reader.Reader.parts.Given as goal

-- the names so far
abbrev pub invariant-loop-turn : goal.invariant-loop-turn
invariant-loop-turn l = ChainSoFar (λ name. name ∷ []) (part l.fn.takes_arguments) (left l.fn.self) l.ids.items l.turn-end l.turn (left l.self)
