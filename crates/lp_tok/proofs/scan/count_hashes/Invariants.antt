use Rattle.std.proofs.Common.{◌≡◌, ◌+◌, ◌≤◌}
use Rattle.lp_tok.specs.Left.{left, size, Follows}
use Rattle.lp_tok.specs.Scans.{hashes, after_hashes}
use Rattle.lp_tok.proofs.scan.count_hashes.Given as goal

abbrev pub invariant-loop-after : goal.invariant-loop-after
invariant-loop-after l = (l.count + hashes (left l.rest) ≡ hashes (left l.from)) × (after_hashes (left l.rest) ≡ after_hashes (left l.from)) × Follows l.from l.rest × (l.count + size l.rest ≤ size l.from)

abbrev pub decreases-loop-after : goal.decreases-loop-after
decreases-loop-after l = size l.rest
