use Rattle.std.proofs.Common.{◌≡◌, ◌++◌, map, drop}
use Rattle.lp_lower.specs.Actions.{action_tree, actions_from}
use Rattle.lp_lower.proofs.actions.push_rules.Given as goal

-- those so far and those to come
abbrev pub invariant-loop-rule : goal.invariant-loop-rule
invariant-loop-rule l =
    map action_tree l.all ++ actions_from l.names.plain.now l.sources l.next (drop l.rule-index l.names.plain.now.rules) ≡ map action_tree l.initial.all ++ actions_from l.names.plain.now l.sources l.first l.names.plain.now.rules
