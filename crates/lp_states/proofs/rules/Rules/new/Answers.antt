use Rattle.lp_states.proofs.RangeLemmas.{rules_ranges}
use Rattle.lp_states.proofs.rules.Rules.new.Goals as goal

pub invariant_of-result : goal.invariant_of-result
invariant_of-result c = record { ranges = rw (c.in_ok-all.ensures, c.in_ok-firsts.ensures) (rules_ranges c.args.grammar.now) }
