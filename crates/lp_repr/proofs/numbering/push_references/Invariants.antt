use Rattle.std.proofs.Common.{◌≡◌, ◌++◌, map, take}
use Rattle.std.specs.Map.Iter.{deref}
use Rattle.lp_repr.proofs.numbering.push_references.Given as goal

abbrev pub invariant-loop-production : goal.invariant-loop-production
invariant-loop-production l =
    map deref l.all.items ≡ map deref l.initial.all.items ++ take l.production-index l.productions
