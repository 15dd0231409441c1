use Rattle.std.proofs.Common.{◌≡◌, ◌++◌, map, take}
use Rattle.std.specs.List.{flat_map}
use Rattle.std.specs.Map.Iter.{deref}
use Rattle.lp_lower.proofs.symbols.push_alternatives.Given as goal

abbrev pub invariant-loop-alternative : goal.invariant-loop-alternative
invariant-loop-alternative l =
    map deref l.all.items ≡ map deref l.initial.all.items ++ flat_map (λ a. a.symbols) (take l.alternative-index l.alternatives)
