use Rattle.std.proofs.Common.{◌≡◌, ◌≤◌}
use Rattle.lp_tok.specs.Left.{left, size, Follows}
use Rattle.lp_tok.specs.Scans.{past_hashes}
use Rattle.lp_tok.proofs.scan.past_hashes.Given as goal

abbrev pub invariant-loop-missing : goal.invariant-loop-missing
invariant-loop-missing l = (past_hashes l.missing (left l.rest) ≡ past_hashes l.count (left l.from)) × Follows l.from l.rest × (size l.rest ≤ size l.from)

abbrev pub decreases-loop-missing : goal.decreases-loop-missing
decreases-loop-missing l = l.missing
