use Rattle.lp_sets.proofs.FirstTableLemmas.{no_member}
use Rattle.lp_sets.proofs.first.empty_words.Goals as goal

pub loop-init : goal.loop-init
loop-init c = rw c.new-empty.ensures (λ n h. absurd (no_member n h))
