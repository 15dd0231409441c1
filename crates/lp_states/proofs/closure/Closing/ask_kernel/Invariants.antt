use Rattle.lp_states.proofs.AskingSteps.{KernelAsked}
use Rattle.lp_states.proofs.closure.Closing.ask_kernel.Given as goal

-- the items so far ask for what was asked
abbrev pub invariant-loop-item : goal.invariant-loop-item
invariant-loop-item l = KernelAsked l.self.rules.all.items l.kernel l.item-iterator l.asked.sets l.asked.work.items
