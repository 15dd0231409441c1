use Rattle.lp_lower.proofs.Sourcing.{IsSourced}
use Rattle.lp_lower.proofs.expand.make_sources.Given as goal

abbrev pub invariant-loop-rule : goal.invariant-loop-rule
invariant-loop-rule l = IsSourced l.names.plain.now l.sources l.first l.rule-index
