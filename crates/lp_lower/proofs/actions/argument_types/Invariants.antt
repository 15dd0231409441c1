use Rattle.std.proofs.Common.{◌≡◌, map, take}
use Rattle.lp_repr.specs.TypeTrees.{type_tree}
use Rattle.lp_lower.specs.Naming.{target}
use Rattle.lp_lower.specs.TypeOf.{target_tree}
use Rattle.lp_lower.proofs.actions.argument_types.Given as goal

abbrev pub invariant-loop-symbol : goal.invariant-loop-symbol
invariant-loop-symbol l =
    map type_tree l.types ≡ map (λ s. target_tree l.names.plain.now (target l.names.plain.now s.kind)) (take l.symbol-index l.alternative.symbols)
