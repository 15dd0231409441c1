use Rattle.lp_lower.proofs.Numbered.{IsNumbered}
use Rattle.lp_lower.proofs.expand.push_numbered.Given as goal

abbrev pub invariant-loop-combination : goal.invariant-loop-combination
invariant-loop-combination l = IsNumbered l.initial.all l.first l.all l.action l.yielded
