use Rattle.std.proofs.Common.{◌≡◌}
use Rattle.std.specs.Vec.Iter.{into_iter_items}
use Rattle.lp_core.specs.Store.{program_of}
use Rattle.lp_core.specs.CallMeaning.{arguments, no_arguments}
use Rattle.lp_core.specs.ArgumentsView.{arguments_of}
use Rattle.lp_core.proofs.events.arguments.Given as goal

abbrev pub invariant-loop-v : goal.invariant-loop-v
invariant-loop-v l =
    arguments (program_of l.setting) l.params (arguments_of l.given) (into_iter_items l.v-iterator) ≡ arguments (program_of l.setting) l.params no_arguments l.fn.values.items
