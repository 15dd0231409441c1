use Rattle.std.proofs.Common.{arith, sym, ap, ◌∙◌, ◌+◌}
use Rattle.lp_spelling.proofs.Counting.{feeds_yes, feeds_no, feeds_le}
use Rattle.lp_spelling.proofs.cursor.lines_ended_in.Goals as goal
use Rattle.lp_spelling.proofs.cursor.lines_ended_in.Goals.{then-ends_line, else-ends_line}

pub overflow_add-count : goal.overflow_add-count
overflow_add-count c = let a = feeds_le c.args.text.now c.loop-at.at in omega (arith, a)

pub loop-at-preserved : goal.loop-at-preserved
loop-at-preserved c =
    let text = c.args.text.now in
    let at = c.loop-at.at in
    elim c.if-ends_line.branch [
      | then-ends_line w ↦
          let e = feeds_yes text at (omega arith) (sym c.ends_line.ensures ∙ w.if-ends_line.true) in
          rw w.count-is (ap (λ n. n + 1) c.loop-at.invariant ∙ sym e)
      | else-ends_line w ↦
          let e = feeds_no text at (omega arith) (sym c.ends_line.ensures ∙ w.if-ends_line.false) in
          rw w.count-is (c.loop-at.invariant ∙ sym e)
    ]
