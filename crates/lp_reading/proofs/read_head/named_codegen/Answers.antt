use Rattle.std.proofs.Common.{refl}
use Rattle.lp_reading.specs.Heads.{named_codegen}
use Rattle.lp_types.proofs.Steps.{answers_as, chosen_no, chosen_yes}
use Rattle.lp_reading.proofs.read_head.named_codegen.Goals as goal

pub returns-then-passes_word : goal.returns-then-passes_word
unfolding named_codegen
returns-then-passes_word c = chosen_yes _ _ _ _ _ _ c.passes_word.ensures c.if-passes_word.true refl

pub returns-else-passes_word : goal.returns-else-passes_word
unfolding named_codegen
returns-else-passes_word c = answers_as _ _ _ _ _ c.table_driven.ensures (chosen_no _ _ _ _ _ _ c.passes_word.ensures c.if-passes_word.false refl)
