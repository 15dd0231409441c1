use Rattle.std.proofs.Common.{◌≡◌, ◌++◌, drop}
use Rattle.lp_states.specs.Reductions.{reductions_of}
use Rattle.lp_states.proofs.state.reductions.Given as goal

abbrev pub invariant-loop-item : goal.invariant-loop-item
invariant-loop-item l =
    l.reductions.items ++ reductions_of l.rules.all.items (drop l.item-index l.items) ≡ reductions_of l.rules.all.items l.items
