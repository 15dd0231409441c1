use Rattle.std.proofs.Common.{refl}
use Rattle.lp_reading.specs.Externs.{associated_types}
use Rattle.lp_types.proofs.Steps.{answers_as, where_no, where_yes}
use Rattle.lp_reading.proofs.read_extern.associated_types.Goals as goal

pub returns-then-passes : goal.returns-then-passes
unfolding associated_types
returns-then-passes c = answers_as _ _ _ _ _ c.told_types.ensures (where_yes _ _ _ _ _ _ _ c.passes.ensures c.if-passes.true refl)

pub returns-else-passes : goal.returns-else-passes
unfolding associated_types
returns-else-passes c = where_no _ _ _ _ _ _ _ c.passes.ensures c.if-passes.false refl
