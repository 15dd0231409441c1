use Rattle.std.proofs.Common.{arith, sym, ◌∙◌}
use Rattle.std.proofs.lemmas.Bool.{ne_eqb}
use Rattle.lp_tok.proofs.Lefts.{follows_follows}
use Rattle.lp_tok.proofs.scan.after_comment.Goals as goal

-- the comment that ends stands in others
pub loop-after-preserved-in-Closes : goal.loop-after-preserved-in-Closes
loop-after-preserved-in-Closes c =
    let closes = c.in-Closes.ensures in (
      sym (rw (ne_eqb c.loop-after.outer 0 c.if-outer-eq0.false) at (closes.0 c.loop-after.outer)) ∙ c.loop-after.invariant.0,
      follows_follows _ _ _ c.loop-after.invariant.1 closes.1,
      omega (arith, closes.2, c.loop-after.invariant.2),
    )
