use Rattle.std.proofs.Common.{◌+◌, ◌≤◌}
use Rattle.lp_tok.specs.Left.{left, size, Follows}
use Rattle.lp_tok.proofs.CutSteps.{IsReading}
use Rattle.lp_tok.proofs.cut.cut.Given as goal

abbrev pub invariant-loop-kind : goal.invariant-loop-kind
invariant-loop-kind l = IsReading (left l.from) (left l.rest) l.depth × Follows l.from l.rest × (l.depth + size l.rest ≤ size l.from)

abbrev pub decreases-loop-kind : goal.decreases-loop-kind
decreases-loop-kind l = size l.rest
