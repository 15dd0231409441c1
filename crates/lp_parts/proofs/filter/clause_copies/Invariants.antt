-- The clauses so far.
use Rattle.std.proofs.Common.{◌≡◌, map, take}
use Rattle.std.specs.Map.Iter.{deref}
use Rattle.lp_repr.specs.TypeTrees.{clause_tree}
use Rattle.lp_parts.proofs.filter.clause_copies.Given as goal

abbrev pub invariant-loop-clause : goal.invariant-loop-clause
invariant-loop-clause l = map clause_tree l.copies.items ≡ map clause_tree (map deref (take l.clause-index l.clauses))
