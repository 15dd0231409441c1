use Rattle.std.proofs.Common.{◌-◌, length}
use Rattle.lp_texts.proofs.Parting.{IsParted}
use Rattle.lp_texts.proofs.bars.first_bar.Given as goal

abbrev pub invariant-loop-at : goal.invariant-loop-at
invariant-loop-at l = IsParted l.text l.at l.depth

abbrev pub decreases-loop-at : goal.decreases-loop-at
decreases-loop-at l = length l.text - l.at
