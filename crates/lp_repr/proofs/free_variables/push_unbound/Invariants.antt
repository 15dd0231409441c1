use Rattle.std.proofs.Common.{◌≡◌, ◌++◌}
use Rattle.lp_repr.specs.FreeVariables.{unbound}
use Rattle.lp_repr.proofs.free_variables.push_unbound.Given as goal

abbrev pub invariant-loop-parameter : goal.invariant-loop-parameter
invariant-loop-parameter l = l.free.items ≡ l.initial.free.items ++ unbound l.binder l.yielded
