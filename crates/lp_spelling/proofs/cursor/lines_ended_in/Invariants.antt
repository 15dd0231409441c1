use Rattle.std.proofs.Common.{◌≡◌, take}
use Rattle.lp_spelling.specs.Counting.{feeds}
use Rattle.lp_spelling.proofs.cursor.lines_ended_in.Given as goal

abbrev pub invariant-loop-at : goal.invariant-loop-at
invariant-loop-at l = l.count ≡ feeds (take l.at l.text)
