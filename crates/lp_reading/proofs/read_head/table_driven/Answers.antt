use Rattle.std.proofs.Common.{refl}
use Rattle.lp_reading.specs.Heads.{table_driven}
use Rattle.lp_types.proofs.Steps.{part_fails, read_then}
use Rattle.lp_reading.proofs.read_head.table_driven.Goals as goal

pub returns-in_err-expect_word : goal.returns-in_err-expect_word
unfolding table_driven
returns-in_err-expect_word c = part_fails _ _ _ _ _ _ _ c.in_err-expect_word.ensures c.from_residual.ensures.1 refl

pub returns : goal.returns
unfolding table_driven
returns c = read_then _ _ _ _ _ c.in_ok-expect_word.ensures refl
