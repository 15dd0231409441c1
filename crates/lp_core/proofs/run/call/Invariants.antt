use Rattle.std.proofs.Common.{◌≡◌}
use Rattle.lp_core.specs.Store.{program_of}
use Rattle.lp_core.specs.Eval.{run_call}
use Rattle.lp_core.specs.FrameView.{state_of, rest, now_flow}
use Rattle.lp_core.proofs.run.call.Given as goal

abbrev pub invariant-running : goal.invariant-running
invariant-running l =
    rest (program_of l.setting) l.frames.items (now_flow (program_of l.setting) l.now (state_of l.world l.left))
    ≡ run_call (program_of l.setting) l.function l.fn.args.items (state_of l.fn.world l.fn.left)

abbrev pub decreases-running : goal.decreases-running
decreases-running l = l.left
