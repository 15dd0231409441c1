use Rattle.std.proofs.Common.{ℕ, ◌<◌}
use Rattle.lp_valid.specs.Members.{holds}
use Rattle.lp_valid.specs.Places.{EachPasses}
use Rattle.lp_valid.specs.SymbolRules.{kind_is_known_by}
use Rattle.lp_valid.proofs.declared.first_unknown_action.Given as goal

abbrev pub invariant-loop-place : goal.invariant-loop-place
invariant-loop-place l = (k : ℕ) → k < l.place → EachPasses (λ a. kind_is_known_by l.grammar (holds l.terminals) a.kind) l.actions k
