use Rattle.std.proofs.Common.{ap, arith, map, ◌∙◌}
use Rattle.lp_reading.specs.Rules.{rule_tree, rules}
use Rattle.lp_types.proofs.Lists.{begun, broke, ended, one_more_seen, ran_out}
use Rattle.lp_types.proofs.Steps.{fails_here, handed_on, no_memory}
use Rattle.lp_types.specs.Left.{left}
use Rattle.lp_types.specs.Reading.{Read}
use Rattle.std.specs.Option.{option_map}
use Rattle.lp_reading.proofs.read_rule.rules.Goals as goal

pub loop-turn-init : goal.loop-turn-init
loop-turn-init c = begun _ _ _ _ (ap (map rule_tree) c.new-rules.ensures.items) c.turns-turn-end.ensures

pub returns-in_err-next_rule : goal.returns-in_err-next_rule
unfolding rules
returns-in_err-next_rule c = handed_on _ _ _ _ _ (broke _ _ _ _ _ _ _ c.loop-turn.invariant (omega arith) c.in_err-next_rule.ensures) c.from_residual.ensures.1

pub returns-in-None : goal.returns-in-None
unfolding rules
returns-in-None c = ended _ _ _ _ _ _ _ c.loop-turn.invariant (omega arith) (c.in_ok-next_rule.ensures ∙ ap (λ o. Read (option_map rule_tree o) (left c.next_rule.new.reader)) c.in-None.is)

pub returns-in_err-push-in-Some : goal.returns-in_err-push-in-Some
returns-in_err-push-in-Some c = no_memory _ _ _ _ c.from_residual-in_err-push-in-Some.ensures.1

pub loop-turn-preserved : goal.loop-turn-preserved
loop-turn-preserved c = one_more_seen rule_tree _ _ _ _ _ _ _ _ c.in-Some.rule _ c.loop-turn.invariant (omega arith) c.in_ok-next_rule.ensures c.in-Some.is c.in_ok-push-in-Some.ensures.items

pub returns : goal.returns
unfolding rules
returns c = fails_here _ _ _ c.error.ensures (ran_out _ _ _ _ _ _ c.loop-turn.invariant (omega arith))
