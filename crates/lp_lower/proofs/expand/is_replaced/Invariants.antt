use Rattle.std.proofs.Common.{◌≡◌, false, take}
use Rattle.std.specs.List.{list_any}
use Rattle.lp_lower.specs.ActionNumbers.{is_replaced_target}
use Rattle.lp_lower.specs.Naming.{target}
use Rattle.lp_lower.proofs.expand.is_replaced.Given as goal

abbrev pub invariant-loop-symbol : goal.invariant-loop-symbol
invariant-loop-symbol l =
    list_any (λ s. is_replaced_target l.names.plain.now (target l.names.plain.now s.kind)) (take l.symbol-index l.alternative.symbols) ≡ false
