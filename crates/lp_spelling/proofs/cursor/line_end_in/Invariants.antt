use Rattle.std.proofs.Common.{◌≡◌, ◌+◌, drop}
use Rattle.lp_spelling.specs.Counting.{line_len}
use Rattle.lp_spelling.proofs.cursor.line_end_in.Given as goal

abbrev pub invariant-loop-at : goal.invariant-loop-at
invariant-loop-at l = l.at + line_len (drop l.at l.text) ≡ l.from + line_len (drop l.from l.text)
