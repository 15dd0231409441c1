use Rattle.std.proofs.Common.{refl}
use Rattle.lp_types.specs.Reading.{expected_word}
use Rattle.lp_types.proofs.Steps.{chosen_yes, chosen_no, fails_here}
use Rattle.lp_types.proofs.reader.Reader.expect_word.Goals as goal

pub returns-then-passes_word : goal.returns-then-passes_word
unfolding expected_word
returns-then-passes_word c = chosen_yes _ _ _ _ _ _ c.passes_word.ensures c.if-passes_word.true refl

pub returns-else-passes_word : goal.returns-else-passes_word
unfolding expected_word
returns-else-passes_word c = fails_here _ _ _ c.error.ensures (chosen_no _ _ _ _ _ _ c.passes_word.ensures c.if-passes_word.false refl)
