use Rattle.std.proofs.Common.{arith, sym, ◌∙◌}
use Rattle.lp_tok.proofs.Lefts.{follows_follows}
use Rattle.lp_tok.proofs.ScanSteps.{attribute_passes, attribute_opens}
use Rattle.lp_tok.proofs.scan.after_attribute.Goals as goal

-- a string was passed
pub loop-c-preserved-in-Some-past : goal.loop-c-preserved-in-Some-past
loop-c-preserved-in-Some-past c =
    let inv = c.loop-c.invariant in
    let first = c.in-Some.ensures in
    let string = c.from_unescaped.ensures in
    let closed = c.in-Some-past.ensures in (
      sym (attribute_passes _ _ _ _ first.first _ _ c.if-c-eq34.true string.value closed.value) ∙ inv.0,
      follows_follows _ _ _ inv.1 (follows_follows _ _ _ first.follows (follows_follows _ _ _ string.follows closed.follows)),
      omega (arith, inv.2, first.shorter, string.shorter, closed.shorter),
    )

-- a bracket was opened
pub loop-c-preserved-then-c-eq91 : goal.loop-c-preserved-then-c-eq91
loop-c-preserved-then-c-eq91 c =
    let inv = c.loop-c.invariant in
    let first = c.in-Some.ensures in (
      sym (attribute_opens _ _ _ _ first.first c.if-c-eq91.true) ∙ inv.0,
      follows_follows _ _ _ inv.1 first.follows,
      omega (arith, inv.2, first.shorter),
    )
