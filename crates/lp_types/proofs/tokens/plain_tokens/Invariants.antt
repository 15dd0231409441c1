use Rattle.std.proofs.Common.{length}
use Rattle.lp_types.proofs.Gathered.{ReadTo}
use Rattle.lp_types.proofs.tokens.plain_tokens.Given as goal

abbrev pub invariant-loop-item : goal.invariant-loop-item
invariant-loop-item l = ReadTo l.text l.offset l.found.items l.tokenizer

abbrev pub decreases-loop-item : goal.decreases-loop-item
decreases-loop-item l = length l.tokenizer.rest.now
