use Rattle.std.proofs.Common.{sym, ap, ◌∙◌}
use Rattle.lp_core.specs.Flow.{Returns}
use Rattle.lp_core.specs.FrameView.{state_of, frame_flow}
use Rattle.lp_core.proofs.Frames.{returned}
use Rattle.lp_core.proofs.machine.leave_by.Goals as goal

pub returns-in-Leave : goal.returns-in-Leave
returns-in-Leave c = λ p left. c.leave.ensures c.args.v left ∙ ap (λ fr. frame_flow p fr (Returns c.args.v (state_of c.args.world.now left))) (sym c.in-Leave.is)

pub returns : goal.returns
returns c = λ p left. returned p c.args.frame c.args.v (state_of c.args.world.now left) c.in_default.not-Leave
