-- The names so far.
use Rattle.std.proofs.Common.{◌≡◌, map, take}
use Rattle.lp_actions.proofs.calls.parameter_names.Given as goal

abbrev pub invariant-loop-parameter : goal.invariant-loop-parameter
invariant-loop-parameter l = l.pieces.items ≡ map (λ p. p.name) (take l.parameter-index l.parameters)
