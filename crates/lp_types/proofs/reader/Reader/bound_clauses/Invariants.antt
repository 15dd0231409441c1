use Rattle.std.proofs.Common.{map}
use Rattle.lp_repr.specs.TypeTrees.{clause_tree, type_tree}
use Rattle.lp_types.specs.Clauses.{bound_clauses, linked_bound, names_of}
use Rattle.lp_types.specs.Left.{left}
use Rattle.lp_types.proofs.Lists.{ChainSoFar}
use Rattle.lp_types.proofs.reader.Reader.bound_clauses.Given as goal

-- the clauses so far
abbrev pub invariant-loop-turn : goal.invariant-loop-turn
invariant-loop-turn l = ChainSoFar (bound_clauses (names_of l.fn.names) (type_tree l.fn.subject)) (linked_bound l.fn.lifetimes) (left l.fn.self) (map clause_tree l.clauses.items) l.turn-end l.turn (left l.self)
