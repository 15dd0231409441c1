use Rattle.std.proofs.Common.{◌≡◌, ◌+◌, ◌≤◌}
use Rattle.lp_tok.specs.Left.{left, size, Follows}
use Rattle.lp_tok.specs.Scans.{after_comment}
use Rattle.lp_tok.proofs.scan.after_comment.Given as goal

abbrev pub invariant-loop-after : goal.invariant-loop-after
invariant-loop-after l = (after_comment l.outer (left l.rest) ≡ after_comment 0 (left l.from)) × Follows l.from l.rest × (l.outer + size l.rest ≤ size l.from)

abbrev pub decreases-loop-after : goal.decreases-loop-after
decreases-loop-after l = size l.rest
