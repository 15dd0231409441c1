use Rattle.std.proofs.Common.{◌-◌}
use Rattle.lp_texts.proofs.Outside.{IsWalked}
use Rattle.lp_texts.proofs.pattern.is_outside.Given as goal

abbrev pub invariant-loop-at : goal.invariant-loop-at
invariant-loop-at l = IsWalked l.text l.place l.at

abbrev pub decreases-loop-at : goal.decreases-loop-at
decreases-loop-at l = l.place - l.at
