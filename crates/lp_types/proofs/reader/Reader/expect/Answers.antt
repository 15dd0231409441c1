use Rattle.std.proofs.Common.{refl}
use Rattle.lp_types.specs.Reading.{expected}
use Rattle.lp_types.proofs.Steps.{where_yes, where_no, fails_here}
use Rattle.lp_types.proofs.reader.Reader.expect.Goals as goal

pub returns-then-passes : goal.returns-then-passes
unfolding expected
returns-then-passes c = where_yes _ _ _ _ _ _ _ c.passes.ensures c.if-passes.true refl

pub returns-else-passes : goal.returns-else-passes
unfolding expected
returns-else-passes c = fails_here _ _ _ c.error.ensures (where_no _ _ _ _ _ _ _ c.passes.ensures c.if-passes.false refl)
