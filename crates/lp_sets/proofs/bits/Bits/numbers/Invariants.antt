use Rattle.std.proofs.Common.{◌*◌}
use Rattle.lp_sets.specs.Members.{ListsBelow}
use Rattle.lp_sets.proofs.bits.Bits.numbers.Given as goal

abbrev pub invariant-loop-place : goal.invariant-loop-place
invariant-loop-place l = ListsBelow l.self (64 * l.place) l.numbers.items
