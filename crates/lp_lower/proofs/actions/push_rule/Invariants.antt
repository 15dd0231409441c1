use Rattle.std.proofs.Common.{◌≡◌, ◌++◌, map, drop}
use Rattle.lp_lower.specs.Actions.{action_tree, rule_actions}
use Rattle.lp_lower.proofs.actions.push_rule.Given as goal

-- those so far and those to come
abbrev pub invariant-loop-alternative : goal.invariant-loop-alternative
invariant-loop-alternative l =
    map action_tree l.all ++ rule_actions l.names.plain.now l.sources l.rule l.user (drop l.alternative-index l.rule.alternatives) ≡ map action_tree l.initial.all ++ rule_actions l.names.plain.now l.sources l.rule l.first l.rule.alternatives
