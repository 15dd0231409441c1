-- The parameters so far.
use Rattle.std.proofs.Common.{◌≡◌, take}
use Rattle.lp_parts.proofs.named.binder_copy.Given as goal

abbrev pub invariant-loop-parameter : goal.invariant-loop-parameter
invariant-loop-parameter l = l.copy.items ≡ take l.parameter-index l.parameter-items
