use Rattle.lp_states.proofs.BegunSteps.{BegunBelow}
use Rattle.lp_states.proofs.builder.Builder.start_kernel.Given as goal

abbrev pub invariant-loop-production : goal.invariant-loop-production
invariant-loop-production l = BegunBelow l.self.closing.rules.all.items l.nonterminal l.production l.kernel
