use Rattle.std.proofs.Common.{◌≡◌}
use Rattle.std.specs.Vec.Iter.{into_iter_items}
use Rattle.lp_core.specs.Store.{store_of}
use Rattle.lp_core.specs.Effect.{all_written}
use Rattle.lp_core.proofs.slots.write_all.Given as goal

abbrev pub invariant-loop-v : goal.invariant-loop-v
invariant-loop-v l =
    (all_written l.x (into_iter_items l.v-iterator) (store_of l.world) ≡ all_written l.first l.fn.values.items (store_of l.fn.world)) × (l.world.events ≡ l.fn.world.events)
