use Rattle.std.proofs.Common.{ap}
use Rattle.lp_core.specs.Store.{program_of}
use Rattle.lp_core.specs.FrameView.{state_of}
use Rattle.lp_turns.specs.Asking.{Asking}
use Rattle.lp_turns.proofs.Told.{ends_at}
use Rattle.lp_turns.proofs.asked.Asked.call.Goals as goal

pub returns : goal.returns
returns c =
    ends_at (program_of c.self.inside.setting) c.args.self.now.program c.args.function c.args.args.items (state_of c.args.world.now c.args.left.now)
    (state_of c.call.new.world c.call.new.left) c.in_ok-ending.ending (ap (λ (a : Asking). a.program) c.self.view_is) c.in_ok-ending.ensures
