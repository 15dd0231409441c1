use Rattle.std.proofs.Common.{◌≡◌, List, ap, ◌∙◌}
use Rattle.std.specs.Prelude.{map}
use Rattle.lp_core.specs.Store.{UserCall, held}
use Rattle.lp_core.specs.FrameView.{state_of}
use Rattle.lp_turns.specs.DriverCall.{begin}
use Rattle.lp_turns.proofs.Told.{tells_over}
use Rattle.lp_turns.proofs.runner.Runner.run_over.Goals as goal

pub returns : goal.returns
returns c =
    let d = c.args.self.now in
    let cells = map held c.args.cells.items in
    let before = state_of c.standing-world.result d.left in
    let after = state_of c.call.new.world c.call.new.left in
    let began : before ≡ begin cells d.calls d.left =
    c.standing-world.ensures d.left ∙ ap (λ (l : List UserCall). begin cells l d.left) c.replace-calls.ensures.value in
    tells_over d c.args.function c.args.args.items cells before after c.in_ok-ending.ending c.made.result began c.in_ok-ending.ensures c.made.ensures
