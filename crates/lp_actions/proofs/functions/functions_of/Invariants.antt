-- The functions so far, and those to come.
use Rattle.std.proofs.Common.{◌≡◌, ◌++◌, drop}
use Rattle.std.specs.List.{flat_map}
use Rattle.lp_tree.specs.ProgramTree.{items}
use Rattle.lp_actions.specs.ActionFunctions.{functions_from}
use Rattle.lp_actions.proofs.functions.functions_of.Given as goal

abbrev pub invariant-loop-number : goal.invariant-loop-number
invariant-loop-number l =
    flat_map items l.functions.items ++ functions_from l.grammar l.number (drop l.number l.actions) ≡ functions_from l.grammar 0 l.actions
