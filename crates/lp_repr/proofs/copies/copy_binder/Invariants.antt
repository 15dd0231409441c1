use Rattle.std.proofs.Common.{◌≡◌, take}
use Rattle.lp_repr.proofs.copies.copy_binder.Given as goal

-- the parameters so far
abbrev pub invariant-loop-parameter : goal.invariant-loop-parameter
invariant-loop-parameter l = l.copy.items ≡ take l.parameter-index l.parameter-items
