use Rattle.std.proofs.Common.{◌≡◌, []}
use Rattle.std.specs.Vec.Iter.{into_iter_items}
use Rattle.lp_core.specs.JoinMeaning.{collected}
use Rattle.lp_core.proofs.join.collected.Given as goal

abbrev pub invariant-loop-v : goal.invariant-loop-v
invariant-loop-v l =
    collected l.kept.items (into_iter_items l.v-iterator) ≡ collected [] l.fn.values.items
