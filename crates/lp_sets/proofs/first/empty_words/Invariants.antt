use Rattle.lp_sets.specs.FirstTables.{IsSoundEmpty}
use Rattle.lp_sets.proofs.first.empty_words.Given as goal

abbrev pub invariant-loop : goal.invariant-loop
invariant-loop l = IsSoundEmpty l.rules l.empty
