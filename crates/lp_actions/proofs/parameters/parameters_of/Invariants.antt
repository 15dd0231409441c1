-- The arguments so far, and those to come.
use Rattle.std.proofs.Common.{◌≡◌, ◌++◌, drop, map}
use Rattle.std.specs.Map.Iter.{deref}
use Rattle.lp_actions.specs.Parameters.{inline_parameters}
use Rattle.lp_actions.proofs.parameters.parameters_of.Given as goal

abbrev pub invariant-loop-number : goal.invariant-loop-number
invariant-loop-number l =
    l.pieces.items ++ inline_parameters l.grammar l.number (map deref (drop l.number l.symbols))
    ≡ inline_parameters l.grammar 0 (map deref l.symbols)
