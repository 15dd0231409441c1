use Rattle.std.proofs.Common.{arith}
use Rattle.lp_tok.proofs.Lefts.{follows_follows}
use Rattle.lp_tok.proofs.escapes.ascii_escape.Goals as goal

pub returns-in-Some-ascii-clause-ends : goal.returns-in-Some-ascii-clause-ends
returns-in-Some-ascii-clause-ends c = (
  follows_follows _ _ _ c.requires.follows (follows_follows _ _ _ c.in-Some.ensures.follows c.in-Some-first_char.ensures.follows),
  omega (arith, c.requires.shorter, c.in-Some.ensures.shorter, c.in-Some-first_char.ensures.shorter),
)
