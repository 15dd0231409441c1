-- The arguments so far, and those to come.
use Rattle.std.proofs.Common.{◌≡◌, ◌++◌, drop}
use Rattle.lp_actions.specs.Parameters.{user_from}
use Rattle.lp_actions.proofs.parameters.user_parameters.Given as goal

abbrev pub invariant-loop-number : goal.invariant-loop-number
invariant-loop-number l =
    l.parameters.items ++ user_from l.grammar l.arg_types l.number (drop l.number l.patterns) ≡ user_from l.grammar l.arg_types 0 l.patterns
