use Rattle.std.proofs.Common.{refl}
use Rattle.lp_reading.specs.Heads.{codegen}
use Rattle.lp_types.proofs.Steps.{answers_as, where_no, where_yes}
use Rattle.lp_reading.proofs.read_head.codegen.Goals as goal

pub returns-then-passes : goal.returns-then-passes
unfolding codegen
returns-then-passes c = answers_as _ _ _ _ _ c.marked_codegen.ensures (where_yes _ _ _ _ _ _ _ c.passes.ensures c.if-passes.true refl)

pub returns-else-passes : goal.returns-else-passes
unfolding codegen
returns-else-passes c = where_no _ _ _ _ _ _ _ c.passes.ensures c.if-passes.false refl
