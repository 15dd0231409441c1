use Rattle.std.proofs.Common.{◌≡◌, sym, ap, ◌∙◌, arith}
use Rattle.lp_core.specs.Store.{program_of}
use Rattle.lp_core.specs.Eval.{run_call}
use Rattle.lp_core.specs.FrameView.{state_of, done_flow, pause_flow}
use Rattle.lp_core.proofs.CallEnds.{over_ends}
use Rattle.lp_core.proofs.Frames.{wants_spent}
use Rattle.lp_core.proofs.run.call.Goals as goal

pub returns-in-Over : goal.returns-in-Over
returns-in-Over c =
    let p = program_of c.args.setting.now in
    let st = state_of c.settle.new.world c.running.left in
    let same : done_flow c.in-Over.done st ≡ run_call p c.args.function c.args.args.items (state_of c.args.world.now c.args.left.now) =
    sym (ap (λ x. pause_flow p c.settle.new.frames.items x st) c.in-Over.is) ∙ c.in_ok-done.ensures c.running.left ∙ c.running.invariant in
    over_ends p c.args.function c.args.args.items (state_of c.args.world.now c.args.left.now) c.ending_of.result st (done_flow c.in-Over.done st) (c.ending_of.ensures st) same

pub returns-then-left-eq0 : goal.returns-then-left-eq0
returns-then-left-eq0 c =
    let p = program_of c.args.setting.now in
    let st = state_of c.settle.new.world c.running.left in
    let none : c.running.left ≡ 0 = omega (arith, c.if-left-eq0.true) in
    (wants_spent p c.settle.new.frames.items c.in_ok-done.field-0 c.in-Wants.step st (run_call p c.args.function c.args.args.items (state_of c.args.world.now c.args.left.now)) c.in-Wants.is none (c.in_ok-done.ensures c.running.left ∙ c.running.invariant), none)
