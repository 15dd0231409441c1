use Rattle.std.proofs.Common.{sym, ap, ◌∙◌}
use Rattle.lp_core.specs.Store.{program_of}
use Rattle.lp_core.specs.Flow.{Gives}
use Rattle.lp_core.specs.FrameView.{state_of, frame_flow}
use Rattle.lp_core.proofs.machine.resume_with.Goals as goal

-- back in the caller
pub returns-clause-same : goal.returns-clause-same
returns-clause-same c = λ left. c.leave.ensures c.args.v left ∙ ap (λ fr. frame_flow (program_of c.args.setting.now) fr (Gives c.args.v (state_of c.args.world.now left))) (sym c.in-Leave.is)
