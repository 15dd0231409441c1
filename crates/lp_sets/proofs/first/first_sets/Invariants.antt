use Rattle.lp_sets.specs.FirstTables.{AreSoundFirsts}
use Rattle.lp_sets.proofs.first.first_sets.Given as goal

abbrev pub invariant-loop : goal.invariant-loop
invariant-loop l = AreSoundFirsts l.rules l.sets.items
