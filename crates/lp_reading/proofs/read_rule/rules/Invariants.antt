use Rattle.std.proofs.Common.{map}
use Rattle.lp_reading.specs.Rules.{next_rule, rule_tree}
use Rattle.lp_types.proofs.Lists.{SoFar}
use Rattle.lp_types.specs.Left.{left}
use Rattle.lp_reading.proofs.read_rule.rules.Given as goal

-- what was read so far
abbrev pub invariant-loop-turn : goal.invariant-loop-turn
invariant-loop-turn l = SoFar next_rule (left l.fn.reader) (map rule_tree l.rules.items) l.turn-end l.turn (left l.reader)
