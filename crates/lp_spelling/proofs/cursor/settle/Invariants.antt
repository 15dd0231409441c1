-- The lines so far don't count.
use Rattle.std.proofs.Common.{◌-◌, length}
use Rattle.lp_spelling.proofs.Counting.{Settling}
use Rattle.lp_spelling.proofs.cursor.settle.Given as goal

abbrev pub invariant-loop-at : goal.invariant-loop-at
invariant-loop-at l = Settling l.text l.from l.at l.before

abbrev pub decreases-loop-at : goal.decreases-loop-at
decreases-loop-at l = length l.text - l.at
