-- The texts so far.
use Rattle.std.proofs.Common.{◌≡◌, map, take}
use Rattle.std.specs.Map.Iter.{deref}
use Rattle.lp_repr.specs.ShownTypes.{clause_text}
use Rattle.lp_ascent.proofs.answers.clause_list.Given as goal

abbrev pub invariant-loop-clause : goal.invariant-loop-clause
invariant-loop-clause l = l.texts.items ≡ map clause_text (map deref (take l.clause-index l.clauses))
