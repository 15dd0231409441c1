use Rattle.std.proofs.Common.{refl}
use Rattle.lp_types.specs.Reading.{separated}
use Rattle.lp_types.proofs.Steps.{where_yes, where_no, chosen_yes, chosen_no, fails_here}
use Rattle.lp_types.proofs.reader.Reader.separates.Goals as goal

pub returns-then-passes : goal.returns-then-passes
unfolding separated
returns-then-passes c = where_yes _ _ _ _ _ _ _ c.passes.ensures c.if-passes.true refl

pub returns-then-is_next : goal.returns-then-is_next
unfolding separated
returns-then-is_next c = where_no _ _ _ _ _ _ _ c.passes.ensures c.if-passes.false (chosen_yes _ _ _ _ _ _ c.is_next.ensures.seen c.if-is_next.true refl)

pub returns-else-is_next : goal.returns-else-is_next
unfolding separated
returns-else-is_next c = fails_here _ _ _ c.error.ensures (where_no _ _ _ _ _ _ _ c.passes.ensures c.if-passes.false (chosen_no _ _ _ _ _ _ c.is_next.ensures.seen c.if-is_next.false refl))
