use Rattle.std.proofs.Common.{◌≡◌, map, take}
use Rattle.lp_lower.proofs.actions.argument_names.Given as goal

abbrev pub invariant-loop-symbol : goal.invariant-loop-symbol
invariant-loop-symbol l =
    l.names ≡ map (λ s. s.name) (take l.symbol-index l.alternative.symbols)
