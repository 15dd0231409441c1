use Rattle.std.proofs.Common.{◌≡◌, ◌++◌, map, take}
use Rattle.std.specs.Map.Iter.{deref_pair}
use Rattle.lp_valid.proofs.declared.push_under.Given as goal

abbrev pub invariant-loop-production : goal.invariant-loop-production
invariant-loop-production l =
    map deref_pair l.all.items ≡ map deref_pair l.initial.all.items ++ map (λ p. (l.name, p)) (take l.production-index l.productions)
