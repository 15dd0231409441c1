use Rattle.std.proofs.Common.{◌≡◌, []}
use Rattle.std.specs.Vec.Iter.{into_iter_items}
use Rattle.lp_core.specs.JoinMeaning.{payloads}
use Rattle.lp_core.proofs.join.payloads.Given as goal

abbrev pub invariant-loop-v : goal.invariant-loop-v
invariant-loop-v l =
    payloads l.texts.items (into_iter_items l.v-iterator) ≡ payloads [] l.fn.values.items
