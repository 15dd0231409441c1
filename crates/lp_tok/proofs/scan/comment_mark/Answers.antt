use Rattle.lp_tok.proofs.Lefts.{follows_follows}
use Rattle.lp_tok.proofs.ScanSteps.{mark_opens, mark_closes, mark_slash, mark_star, mark_other}
use Rattle.std.proofs.Common.{arith}
use Rattle.lp_tok.proofs.scan.comment_mark.Goals as goal

pub returns-in-Some-past : goal.returns-in-Some-past
returns-in-Some-past c = (
  λ n. mark_opens n _ _ _ c.in-Some.ensures.first _ c.if-c-eq47.true c.in-Some-past.ensures.value,
  follows_follows _ _ _ c.in-Some.ensures.follows c.in-Some-past.ensures.follows,
  omega (arith, c.in-Some.ensures.shorter, c.in-Some-past.ensures.shorter),
)

pub returns-in-None-past : goal.returns-in-None-past
returns-in-None-past c = (λ n. mark_slash n _ _ _ c.in-Some.ensures.first c.if-c-eq47.true c.in-None-past.ensures.value, c.in-Some.ensures.follows, c.in-Some.ensures.shorter)

pub returns-in-Some-past-2 : goal.returns-in-Some-past-2
returns-in-Some-past-2 c = (
  λ n. mark_closes n _ _ _ c.in-Some.ensures.first _ c.if-c-eq42.true c.in-Some-past-2.ensures.value,
  follows_follows _ _ _ c.in-Some.ensures.follows c.in-Some-past-2.ensures.follows,
  omega (arith, c.in-Some.ensures.shorter, c.in-Some-past-2.ensures.shorter),
)

pub returns-in-None-past-2 : goal.returns-in-None-past-2
returns-in-None-past-2 c = (λ n. mark_star n _ _ _ c.in-Some.ensures.first c.if-c-eq42.true c.in-None-past-2.ensures.value, c.in-Some.ensures.follows, c.in-Some.ensures.shorter)

pub returns-else-c-eq42 : goal.returns-else-c-eq42
returns-else-c-eq42 c = (λ n. mark_other n _ _ _ c.in-Some.ensures.first c.if-c-eq47.false c.if-c-eq42.false, c.in-Some.ensures.follows, c.in-Some.ensures.shorter)
