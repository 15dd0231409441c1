use Rattle.std.proofs.Common.{refl}
use Rattle.lp_reading.specs.Rules.{inline_rule}
use Rattle.lp_types.proofs.Steps.{answers_as, part_fails, read_then}
use Rattle.lp_reading.proofs.read_rule.inline_rule.Goals as goal

pub returns-in_err-expect : goal.returns-in_err-expect
unfolding inline_rule
returns-in_err-expect c = part_fails _ _ _ _ _ _ _ c.in_err-expect.ensures c.from_residual.ensures.1 refl

pub returns-in_err-expect_word : goal.returns-in_err-expect_word
unfolding inline_rule
returns-in_err-expect_word c = part_fails _ _ _ _ _ _ _ c.in_err-expect_word.ensures c.from_residual-in_err-expect_word.ensures.1 (read_then _ _ _ _ _ c.in_ok-expect.ensures refl)

pub returns-in_err-expect-2 : goal.returns-in_err-expect-2
unfolding inline_rule
returns-in_err-expect-2 c = part_fails _ _ _ _ _ _ _ c.in_err-expect-2.ensures c.from_residual-in_err-expect-2.ensures.1 (read_then _ _ _ _ _ c.in_ok-expect.ensures (read_then _ _ _ _ _ c.in_ok-expect_word.ensures refl))

pub returns : goal.returns
unfolding inline_rule
returns c = answers_as _ _ _ _ _ c.some_rule.ensures (read_then _ _ _ _ _ c.in_ok-expect.ensures (read_then _ _ _ _ _ c.in_ok-expect_word.ensures (read_then _ _ _ _ _ c.in_ok-expect-2.ensures refl)))
