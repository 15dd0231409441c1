use Rattle.lp_sets.proofs.FirstTableLemmas.{no_member}
use Rattle.lp_sets.proofs.first.first_sets.Goals as goal

pub loop-init : goal.loop-init
loop-init c = rw c.new-sets.ensures.items (λ n t h. absurd (no_member t h))
