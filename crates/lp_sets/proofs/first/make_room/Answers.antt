use Rattle.std.proofs.Common.{◌∙◌}
use Rattle.lp_sets.proofs.FirstTableLemmas.{get_or-push_zero}
use Rattle.lp_sets.proofs.first.make_room.Goals as goal

pub loop-alloc-preserved : goal.loop-alloc-preserved
loop-alloc-preserved c = λ n. rw (c.in_ok-push.ensures.items, c.new.ensures) (get_or-push_zero c.loop-alloc.sets.items n ∙ c.loop-alloc.invariant n)
