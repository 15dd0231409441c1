use Rattle.std.proofs.Common.{ℕ, ◌<◌}
use Rattle.std.specs.Map.Iter.{deref_pair}
use Rattle.lp_valid.specs.Members.{has}
use Rattle.lp_valid.specs.Places.{EachPasses}
use Rattle.lp_valid.specs.StartRules.{is_start_unless}
use Rattle.lp_valid.proofs.starts.first_other.Given as goal

abbrev pub invariant-loop-place : goal.invariant-loop-place
invariant-loop-place l = (k : ℕ) → k < l.place → EachPasses (λ e. is_start_unless l.grammar (has l.on_right) (deref_pair e)) l.starts k
