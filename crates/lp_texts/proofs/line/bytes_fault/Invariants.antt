use Rattle.std.proofs.Common.{◌-◌, length, reverse}
use Rattle.lp_texts.proofs.Scanning.{IsScanned}
use Rattle.lp_texts.proofs.line.bytes_fault.Given as goal

abbrev pub invariant-loop-at : goal.invariant-loop-at
invariant-loop-at l = IsScanned l.pattern l.text l.at (reverse l.brackets.items)

abbrev pub decreases-loop-at : goal.decreases-loop-at
decreases-loop-at l = length l.text - l.at
