-- What is left after a last line in which nothing stands is dropped.
use Rattle.std.proofs.Common.{ap, ◌∙◌}
use Rattle.lp_lines.proofs.Lines.{empty_dropped, other_kept}
use Rattle.lp_lines.proofs.token_line.lines.Goals as goal
use Rattle.lp_lines.proofs.token_line.lines.Goals.{then-ends_empty, else-ends_empty}

pub returns : goal.returns
returns c =
    elim c.if-ends_empty.branch [
      | then-ends_empty w ↦ empty_dropped (λ line. line.now) c.in_ok-lines.lines.items c.as_slice.result.now c.if-ends_empty.lines.items _ _ c.in_ok-lines.ensures c.as_slice.ensures.value c.as_slice.ensures.len w.if-ends_empty.ensures (ap (λ v. v.items) w.lines-is ∙ w.pop.ensures.rest)
      | else-ends_empty w ↦ other_kept (λ line. line.now) c.in_ok-lines.lines.items c.as_slice.result.now c.if-ends_empty.lines.items _ c.in_ok-lines.ensures c.as_slice.ensures.value w.if-ends_empty.ensures (ap (λ v. v.items) w.lines-is)
    ]
