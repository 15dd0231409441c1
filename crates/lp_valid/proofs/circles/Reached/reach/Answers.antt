use Rattle.std.proofs.Common.{◌∙◌, refl, arith}
use Rattle.lp_valid.proofs.Walks.{marks_one, marks_again, mark_read}
use Rattle.lp_valid.proofs.circles.Reached.reach.Goals as goal
use Rattle.lp_valid.proofs.circles.Reached.reach.Goals.{else-action-len-via-then-action-len+else-not-index, else-action-len-via-else-action-len}

pub returns-in_ok-push-clause-marks : goal.returns-in_ok-push-clause-marks
returns-in_ok-push-clause-marks c = marks_one c.args.self.now _ c.args.action (omega arith) refl c.in_ok-push.ensures.items

pub returns-else-action-len-clause-marks : goal.returns-else-action-len-clause-marks
returns-else-action-len-clause-marks c =
    marks_again c.args.self.now c.args.action
    (λ less.
    elim c.else-action-len.branch [
      | else-action-len-via-then-action-len+else-not-index w ↦ mark_read c.args.self.now.reached.items c.args.action _ less w.index.ensures ∙ w.if-not-index.false
      | else-action-len-via-else-action-len w ↦ absurd (omega arith)
    ])
