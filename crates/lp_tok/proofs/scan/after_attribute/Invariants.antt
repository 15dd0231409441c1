use Rattle.std.proofs.Common.{◌≡◌, ◌+◌, ◌≤◌}
use Rattle.lp_tok.specs.Left.{left, size, Follows}
use Rattle.lp_tok.specs.Scans.{after_attribute, NoString}
use Rattle.lp_tok.proofs.scan.after_attribute.Given as goal

abbrev pub invariant-loop-c : goal.invariant-loop-c
invariant-loop-c l = (after_attribute NoString l.outer (left l.rest) ≡ after_attribute NoString 0 (left l.from)) × Follows l.from l.rest × (l.outer + size l.rest ≤ size l.from)

abbrev pub decreases-loop-c : goal.decreases-loop-c
decreases-loop-c l = size l.rest
