use Rattle.std.proofs.Common.{◌∙◌}
use Rattle.lp_core.specs.Store.{program_of}
use Rattle.lp_core.specs.FrameView.{state_of}
use Rattle.lp_core.proofs.Frames.{resumed}
use Rattle.lp_core.proofs.Less.{resumed_less}
use Rattle.lp_core.proofs.machine.settle.Goals as goal

pub settling-smaller : goal.settling-smaller
settling-smaller c = resumed_less c.settling.frames.items c.pop.new.self.items c.in-Some.frame c.settling.now c.in_ok-now-in-Some.now c.in-Ended.done c.in-Ended.is c.in-Some.ensures.items c.in_ok-now-in-Some.ensures.smaller

pub settling-preserved : goal.settling-preserved
settling-preserved c = λ left. resumed (program_of c.args.setting.now) c.settling.frames.items c.pop.new.self.items c.in-Some.frame c.settling.now c.in_ok-now-in-Some.now c.in-Ended.done (state_of c.settling.world left) (state_of c.resume.new.world left) c.in-Ended.is c.in-Some.ensures.items (c.in_ok-now-in-Some.ensures.same left) ∙ c.settling.invariant left
