use Rattle.lp_tables.specs.Gathering.{known_by}
use Rattle.lp_tables.proofs.LeastRule.{HoldUpto}
use Rattle.lp_tables.proofs.check.failing_rule.Given as goal

abbrev pub invariant-loop-rule : goal.invariant-loop-rule
invariant-loop-rule l = HoldUpto (known_by l.tables) l.tables.states.now l.state l.rule-index
