use Rattle.lp_tok.specs.Left.{size}
use Rattle.lp_tok.proofs.Readings.{PassesGaps}
use Rattle.lp_tok.proofs.tokenizer.read.Given as goal

abbrev pub invariant-loop-after : goal.invariant-loop-after
invariant-loop-after l = PassesGaps l.from l.start

abbrev pub decreases-loop-after : goal.decreases-loop-after
decreases-loop-after l = size l.start
