use Rattle.std.proofs.Common.{◌≡◌, ◌≤◌}
use Rattle.lp_tok.specs.Left.{left, size, Follows}
use Rattle.lp_tok.specs.Scans.{raw_end}
use Rattle.lp_tok.proofs.scan.raw_end.Given as goal

abbrev pub invariant-loop-c : goal.invariant-loop-c
invariant-loop-c l = (raw_end l.hashes (left l.rest) ≡ raw_end l.hashes (left l.from)) × Follows l.from l.rest × (size l.rest ≤ size l.from)

abbrev pub decreases-loop-c : goal.decreases-loop-c
decreases-loop-c l = size l.rest
