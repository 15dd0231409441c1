use Rattle.std.proofs.Common.{map}
use Rattle.lp_repr.specs.TypeTrees.{clause_tree}
use Rattle.lp_types.specs.Clauses.{linked_clause}
use Rattle.lp_types.specs.Left.{left}
use Rattle.lp_types.proofs.Lists.{ChainSoFar}
use Rattle.lp_types.proofs.reader.Reader.clauses.Given as goal

-- the clauses so far
abbrev pub invariant-loop-turn : goal.invariant-loop-turn
invariant-loop-turn l = ChainSoFar (λ found. found) linked_clause (left l.fn.self) (map clause_tree l.clauses.items) l.turn-end l.turn (left l.self)
