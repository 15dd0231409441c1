use Rattle.std.proofs.Common.{arith, sym, subst, ◌∙◌}
use Rattle.std.proofs.lemmas.Bool.{false≢true}
use Rattle.lp_tok.specs.Left.{left}
use Rattle.lp_tok.proofs.Lefts.{follows_follows, follows_itself}
use Rattle.lp_tok.proofs.CutSteps.{IsReading, reading_none, reading_more, open_after_le, some_open}
use Rattle.lp_tok.proofs.cut.cut.Goals as goal

pub loop-kind-init : goal.loop-kind-init
loop-kind-init c = (reading_none _, follows_itself _, omega arith)

pub loop-kind-preserved : goal.loop-kind-preserved
loop-kind-preserved c =
    let inv = c.loop-kind.invariant in
    let piece = c.in-Whole.ensures in (
      subst (IsReading (left c.args.from) (left c.in-Whole.next)) (sym c.open_after-depth.ensures)
          (reading_more _ _ _ _ _ inv.0 (sym piece.value)
          (some_open _ _ (λ ends. false≢true (sym c.if-ends_cut.false ∙ c.ends_cut.ensures.1 ends)))),
      follows_follows _ _ _ inv.1 piece.takes.0,
      omega (arith, inv.2, piece.takes.1, c.open_after-depth.ensures, open_after_le c.loop-kind.depth c.in-Whole.kind),
    )
