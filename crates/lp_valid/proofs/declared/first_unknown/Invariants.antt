use Rattle.std.proofs.Common.{ℕ, ◌<◌}
use Rattle.std.specs.Map.Iter.{deref_pair}
use Rattle.lp_valid.specs.Members.{holds}
use Rattle.lp_valid.specs.Places.{EachPasses}
use Rattle.lp_valid.specs.SymbolRules.{production_is_known_by}
use Rattle.lp_valid.proofs.declared.first_unknown.Given as goal

abbrev pub invariant-loop-place : goal.invariant-loop-place
invariant-loop-place l = (k : ℕ) → k < l.place → EachPasses (λ e. production_is_known_by l.grammar (holds l.terminals) (deref_pair e)) l.placed k
