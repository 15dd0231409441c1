use Rattle.std.proofs.Common.{◌≡◌, List, [], map, ap, ◌∙◌}
use Rattle.lp_core.specs.Store.{UserCall, program_of, held}
use Rattle.lp_core.specs.FrameView.{state_of}
use Rattle.lp_core.specs.declared.cell.Cell.{Cell}
use Rattle.lp_turns.specs.DriverCall.{begin}
use Rattle.lp_run.proofs.Telling.{call_tells}
use Rattle.lp_run.proofs.run.parse_by_call.Goals as goal

pub returns : goal.returns
returns c =
    let before = state_of c.standing-world.result c.args.budget in
    let after = state_of c.call.new.world c.call.new.left in
    let began : before ≡ begin [] [] c.args.budget =
    c.standing-world.ensures c.args.budget
    ∙ ap (λ (cells : List Cell). begin (map held cells) c.none-no_calls.result c.args.budget) c.new-no_cells.ensures.items
    ∙ ap (λ (calls : List UserCall). begin [] calls c.args.budget) c.none-no_calls.ensures in
    call_tells (program_of c.args.setting.now) c.args.function c.args.params c.args.budget c.in_ok-args.args.items before after c.in_ok-ending.ending c.made-calls.result c.in_ok-args.ensures began c.in_ok-ending.ensures c.made-calls.ensures
