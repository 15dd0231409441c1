use Rattle.std.proofs.Common.{refl}
use Rattle.lp_reading.specs.Externs.{told_types}
use Rattle.lp_types.proofs.Steps.{answers_as, chosen_no, chosen_yes}
use Rattle.lp_reading.proofs.read_extern.told_types.Goals as goal

pub returns-then-passes_word : goal.returns-then-passes_word
unfolding told_types
returns-then-passes_word c = answers_as _ _ _ _ _ c.error_alone.ensures (chosen_yes _ _ _ _ _ _ c.passes_word.ensures c.if-passes_word.true refl)

pub returns-else-passes_word : goal.returns-else-passes_word
unfolding told_types
returns-else-passes_word c = answers_as _ _ _ _ _ c.location_first.ensures (chosen_no _ _ _ _ _ _ c.passes_word.ensures c.if-passes_word.false refl)
