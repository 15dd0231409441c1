use Rattle.std.proofs.Common.{◌≡◌, take}
use Rattle.lp_emitted.specs.Emittable.{greatest_of}
use Rattle.lp_emit.proofs.checks.greatest_count.Given as goal

abbrev pub invariant-loop-list : goal.invariant-loop-list
invariant-loop-list l = l.greatest ≡ greatest_of l.number (take l.list-index l.states)
