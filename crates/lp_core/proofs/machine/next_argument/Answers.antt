use Rattle.lp_core.specs.Store.{program_of}
use Rattle.lp_core.specs.FrameView.{state_of}
use Rattle.lp_core.proofs.Frames.{next_more}
use Rattle.lp_core.proofs.Less.{next_more_less}
use Rattle.lp_core.proofs.machine.next_argument.Goals as goal

pub returns-in_ok-push-in-Some-clause-same : goal.returns-in_ok-push-in-Some-clause-same
returns-in_ok-push-in-Some-clause-same c = λ left. next_more (program_of c.args.setting.now) c.args.frames.now.items c.push.new.self.items c.args.target c.args.values c.in-Some.others c.args.args.now c.in-Some.e.now (state_of c.args.world.now left) c.in-Some.ensures c.in_ok-push-in-Some.ensures.items

pub returns-in_ok-push-in-Some-clause-smaller : goal.returns-in_ok-push-in-Some-clause-smaller
returns-in_ok-push-in-Some-clause-smaller c = next_more_less c.args.frames.now.items c.push.new.self.items c.args.target c.args.values c.in-Some.others c.args.args.now c.in-Some.e.now c.in-Some.ensures c.in_ok-push-in-Some.ensures.items
