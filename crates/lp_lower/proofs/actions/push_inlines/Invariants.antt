use Rattle.std.proofs.Common.{◌≡◌, ◌++◌, map}
use Rattle.lp_lower.specs.Actions.{action_tree, inline_action}
use Rattle.lp_lower.proofs.actions.push_inlines.Given as goal

-- those that stood there, and those so far
abbrev pub invariant-loop-combination : goal.invariant-loop-combination
invariant-loop-combination l =
    map action_tree l.all ≡ map action_tree l.initial.all ++ map (inline_action l.rule l.user) l.yielded
