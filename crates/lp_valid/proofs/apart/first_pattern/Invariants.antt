use Rattle.std.proofs.Common.{ℕ, ◌<◌}
use Rattle.lp_repr.specs.Shown.{pattern_text}
use Rattle.lp_valid.specs.Places.{EachPasses}
use Rattle.lp_valid.specs.PrefixRules.{lacks}
use Rattle.lp_valid.proofs.apart.first_pattern.Given as goal

abbrev pub invariant-loop-place : goal.invariant-loop-place
invariant-loop-place l = (k : ℕ) → k < l.place → EachPasses (λ p. lacks l.grammar.prefix (pattern_text p.now)) l.patterns k
