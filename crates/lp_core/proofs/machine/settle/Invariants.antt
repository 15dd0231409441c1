use Rattle.std.proofs.Common.{◌≡◌, ◌+◌, ℕ}
use Rattle.lp_core.specs.Store.{program_of}
use Rattle.lp_core.specs.FrameView.{state_of, rest, now_flow}
use Rattle.lp_core.specs.Weight.{weights, weight_now}
use Rattle.lp_core.proofs.machine.settle.Given as goal

abbrev pub invariant-settling : goal.invariant-settling
invariant-settling l = (left : ℕ) →
    rest (program_of l.setting) l.frames.items (now_flow (program_of l.setting) l.now (state_of l.world left))
    ≡ rest (program_of l.setting) l.fn.frames.items (now_flow (program_of l.setting) l.fn.first (state_of l.fn.world left))

abbrev pub decreases-settling : goal.decreases-settling
decreases-settling l = weights l.frames.items + weight_now l.now
