use Rattle.std.proofs.Common.{string_bytes}
use Rattle.lp_tok.specs.Left.{left, size, Follows}
use Rattle.lp_tok.proofs.Unescaped.{StandSoFar}
use Rattle.lp_tok.proofs.escapes.unescaped.Given as goal

abbrev pub invariant-loop-c : goal.invariant-loop-c
invariant-loop-c l = StandSoFar (left l.from) (left l.rest) (string_bytes l.text) × Follows l.from l.rest

abbrev pub decreases-loop-c : goal.decreases-loop-c
decreases-loop-c l = size l.rest
