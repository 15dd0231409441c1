use Rattle.std.proofs.Common.{is_ok, ap, sym, ◌∙◌}
use Rattle.std.proofs.ResultArms.{chosen}
use Rattle.lp_tok.proofs.Lefts.{follows_follows, left_alone, alone_follows}
use Rattle.lp_tok.proofs.Unescaped.{stand_plain, stand_escape, fails_at, stands_all}
use Rattle.lp_tok.specs.Tokens.{place}
use Rattle.lp_tok.specs.Left.{left}
use Rattle.lp_tok.proofs.escapes.unescaped.Goals as goal

-- an escape was read, and the text gained its character
pub loop-c-preserved-in-Stands : goal.loop-c-preserved-in-Stands
loop-c-preserved-in-Stands c =
    let inv = c.loop-c.invariant in
    let gained = chosen _ _ _ _ c.push.ensures.bytes (ap is_ok c.in_ok-push-in-Stands.was) in (
      stand_escape _ _ _ _ c.in-Stands.plain inv.0 _ _ c.in-Some.ensures.first c.if-c-eq92.true c.in-Stands.ensures.value _ gained,
      follows_follows _ _ _ inv.1 (follows_follows _ _ _ c.in-Some.ensures.follows c.in-Stands.ensures.ends.0),
    )

pub returns-in-Broken-clause-faults : goal.returns-in-Broken-clause-faults
returns-in-Broken-clause-faults c =
    let inv = c.loop-c.invariant in
    let from_here = follows_follows _ _ _ inv.1 c.in-Broken.ensures.ends in (
      left c.in-Broken.at,
      fails_at _ _ _ _ _ _ _ inv.0 c.in-Some.ensures.first c.if-c-eq92.true c.in-Broken.ensures.value,
      c.place.ensures.value ∙ ap (place c.args.end) (sym (left_alone c.in-Broken.at (alone_follows c.args.from c.in-Broken.at from_here c.requires))),
    )

-- another character was read
pub loop-c-preserved : goal.loop-c-preserved
loop-c-preserved c =
    let inv = c.loop-c.invariant in
    let gained = chosen _ _ _ _ c.push-else-c-eq92.ensures.bytes (ap is_ok c.in_ok-push.was) in (
      stand_plain _ _ _ _ c.in-Some.c inv.0 c.in-Some.ensures.first c.if-c-eq92.false _ gained,
      follows_follows _ _ _ inv.1 c.in-Some.ensures.follows,
    )

pub returns-clause-value : goal.returns-clause-value
returns-clause-value c = stands_all _ _ _ c.loop-c.invariant.0 c.in_default.ensures.first
