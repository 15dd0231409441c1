use Rattle.std.proofs.Common.{◌≡◌, ◌++◌, map, drop}
use Rattle.std.specs.Prelude.{filter}
use Rattle.lp_lower.specs.Actions.{action_tree, start_action}
use Rattle.lp_lower.proofs.actions.push_starts.Given as goal

-- those so far and those to come
abbrev pub invariant-loop-rule : goal.invariant-loop-rule
invariant-loop-rule l =
    map action_tree l.all ++ map (start_action l.plain) (filter (λ r. r.public) (drop l.rule-index l.plain.rules)) ≡ map action_tree l.initial.all ++ map (start_action l.plain) (filter (λ r. r.public) l.plain.rules)
