use Rattle.std.proofs.Common.{arith}
use Rattle.lp_tok.proofs.Lefts.{follows_follows}
use Rattle.lp_tok.proofs.word.regex_piece.Goals as goal

-- the literal ends after its inside, which begins after the hashes
pub returns-in-Some-raw_end-clause-ends : goal.returns-in-Some-raw_end-clause-ends
returns-in-Some-raw_end-clause-ends c =
    let inside = follows_follows _ _ _ c.requires.follows c.in-Some.ensures.follows in (
      follows_follows _ _ _ inside c.in-Some-raw_end.ensures.follows,
      omega (arith, c.requires.shorter, c.in-Some.ensures.shorter, c.in-Some-raw_end.ensures.shorter),
      follows_follows _ _ _ c.requires.begun inside,
      c.in-Some-raw_end.ensures.quote_follows,
      c.in-Some-raw_end.ensures.quote_before,
    )
