use Rattle.std.proofs.Common.{arith}
use Rattle.std.proofs.Math.Seq.{take-add}
use Rattle.lp_write.proofs.Sinking.{took-then}
use Rattle.lp_write.proofs.sinks.write_all.Goals as goal

pub loop-at-preserved : goal.loop-at-preserved
loop-at-preserved g c = (
  omega (arith, c.in_ok-at.ensures.within, c.rest.ensures.len),
  rw (take-add c.loop-at.at c.in_ok-at.field-0 c.args.piece.now)
      (took-then _ _ _ _ _ c.loop-at.invariant.1 (rw c.rest.ensures.value at c.in_ok-at.ensures.took)),
)
