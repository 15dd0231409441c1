use Rattle.std.proofs.Common.{length}
use Rattle.lp_tok.proofs.SeenSoFar.{GivenSoFar}
use Rattle.lp_tok.proofs.tokenizer.first_error.Given as goal

abbrev pub invariant-loop-item : goal.invariant-loop-item
invariant-loop-item l = GivenSoFar l.text l.shift l.tokens l.error

abbrev pub decreases-loop-item : goal.decreases-loop-item
decreases-loop-item l = length l.tokens.rest.now
