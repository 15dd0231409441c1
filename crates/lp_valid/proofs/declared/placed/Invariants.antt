use Rattle.std.proofs.Common.{◌≡◌, ◌++◌, map}
use Rattle.std.specs.Map.Iter.{deref_pair}
use Rattle.std.specs.List.{flat_map}
use Rattle.lp_valid.specs.SymbolRules.{placed_of}
use Rattle.lp_valid.proofs.declared.placed.Given as goal

abbrev pub invariant-loop-name : goal.invariant-loop-name
invariant-loop-name l =
    map deref_pair l.all.items ++ flat_map (λ e. map (λ p. (e.0, p)) (e.1).productions) l.name-iterator ≡ placed_of l.grammar
