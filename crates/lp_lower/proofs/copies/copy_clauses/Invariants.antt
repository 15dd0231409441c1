use Rattle.std.proofs.Common.{◌≡◌, map, take}
use Rattle.lp_repr.specs.TypeTrees.{clause_tree}
use Rattle.lp_lower.proofs.copies.copy_clauses.Given as goal

abbrev pub invariant-loop-clause : goal.invariant-loop-clause
invariant-loop-clause l = map clause_tree l.copies ≡ map clause_tree (take l.clause-index l.clauses)
