-- The names so far.
use Rattle.std.proofs.Common.{◌≡◌, map, take}
use Rattle.lp_table.proofs.headers.parameter_names.Given as goal

abbrev pub invariant-loop-parameter : goal.invariant-loop-parameter
invariant-loop-parameter l = l.names.items ≡ map (λ p. p.name) (take l.parameter-index l.parameters)
