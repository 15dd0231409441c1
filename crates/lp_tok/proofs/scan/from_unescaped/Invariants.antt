use Rattle.std.proofs.Common.{◌≡◌, ◌≤◌}
use Rattle.lp_tok.specs.Left.{left, size, Follows}
use Rattle.lp_tok.specs.Scans.{from_unescaped}
use Rattle.lp_tok.proofs.scan.from_unescaped.Given as goal

abbrev pub invariant-loop-c : goal.invariant-loop-c
invariant-loop-c l = (from_unescaped l.quote (left l.rest) ≡ from_unescaped l.quote (left l.from)) × Follows l.from l.rest × (size l.rest ≤ size l.from)

abbrev pub decreases-loop-c : goal.decreases-loop-c
decreases-loop-c l = size l.rest
