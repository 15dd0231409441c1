use Rattle.std.proofs.Common.{◌≡◌, ℕ, ◌+◌, List, Some, slice_get, length, refl, sym, ap, ◌∙◌, arith}
use Rattle.std.proofs.lemmas.Result.{IfOk-weaker}
use Rattle.lp_core.specs.declared.expr.Function.{Function}
use Rattle.lp_core.specs.Store.{Program, program_of}
use Rattle.lp_core.specs.Eval.{run, enter_with}
use Rattle.lp_core.specs.FrameView.{state_of, rest, now_flow, step_flow}
use Rattle.lp_core.proofs.Frames.{again, entered_step}
use Rattle.lp_core.proofs.machine.make_step.Goals as goal

pub returns-in-Again : goal.returns-in-Again
returns-in-Again c = λ left. again (program_of c.args.setting.now) c.args.frames.now.items c.push.new.self.items c.in-Again.e c.args.step (state_of c.args.world.now (left + 1)) left refl c.in-Again.is c.in_ok-push-in-Again.ensures.items

pub returns-then-function-len : goal.returns-then-function-len
returns-then-function-len c =
    let p = program_of c.args.setting.now in
    let found : Some c.in-Some.function.now ≡ slice_get c.args.setting.now.code.now.functions.items c.in-Enter.f = c.in-Some.ensures ∙ ap (λ (l : List Function). slice_get l c.in-Enter.f) c.deref.ensures.value in
    let many : c.in-Some.function.now.params ≡ length c.in-Enter.values.items = omega (arith, c.if-function-len.true, c.len.ensures, c.in-Enter.values.ok.0) in
    IfOk-weaker c.enter.result
    (λ now. (q : Program) (left : ℕ) → rest q c.enter.new.frames.items (now_flow q now (state_of c.enter.new.world left)) ≡ rest q c.args.frames.now.items (enter_with q c.in-Some.function.now (run q) c.in-Enter.values.items (state_of c.args.world.now left)))
    (λ now. (left : ℕ) → rest p c.enter.new.frames.items (now_flow p now (state_of c.enter.new.world left)) ≡ rest p c.args.frames.now.items (step_flow p c.args.step (state_of c.args.world.now (left + 1))))
    (λ now h left. h p left ∙ ap (rest p c.args.frames.now.items) (sym (entered_step p c.in-Enter.f c.in-Enter.values c.args.step (state_of c.args.world.now (left + 1)) left c.in-Some.function.now refl c.in-Enter.is found many)))
    c.enter.ensures
