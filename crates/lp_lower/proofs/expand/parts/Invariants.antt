use Rattle.std.proofs.Common.{◌≡◌, map, take}
use Rattle.lp_lower.specs.Expansion.{options}
use Rattle.lp_lower.specs.Naming.{target}
use Rattle.lp_lower.specs.Pieces.{pieces_of}
use Rattle.lp_lower.proofs.expand.parts.Given as goal

abbrev pub invariant-loop-symbol : goal.invariant-loop-symbol
invariant-loop-symbol l =
    map pieces_of l.parts.items ≡ map (λ s. options l.names.plain.now l.sources (target l.names.plain.now s.kind)) (take l.symbol-index l.alternative.symbols)
