use Rattle.std.proofs.Common.{refl}
use Rattle.lp_reading.specs.Rules.{rule_body}
use Rattle.lp_types.proofs.Steps.{answers_as, where_no, where_yes}
use Rattle.lp_reading.proofs.read_rule.rule_body.Goals as goal

pub returns-then-passes : goal.returns-then-passes
unfolding rule_body
returns-then-passes c = answers_as _ _ _ _ _ c.braced.ensures (where_yes _ _ _ _ _ _ _ c.passes.ensures c.if-passes.true refl)

pub returns-else-passes : goal.returns-else-passes
unfolding rule_body
returns-else-passes c = answers_as _ _ _ _ _ c.single.ensures (where_no _ _ _ _ _ _ _ c.passes.ensures c.if-passes.false refl)
