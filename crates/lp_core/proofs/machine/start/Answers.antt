use Rattle.std.proofs.Common.{◌≡◌, refl, sym, ap, ◌∙◌}
use Rattle.lp_core.specs.NodeView.{tree_of}
use Rattle.lp_core.specs.Store.{program_of}
use Rattle.lp_core.specs.Tree.{Apply, If, Match, trees_of}
use Rattle.lp_core.specs.FrameView.{state_of}
use Rattle.lp_core.proofs.Frames.{start_apply, start_if, start_match}
use Rattle.lp_core.proofs.Less.{start_apply_less, start_if_less, start_match_less}
use Rattle.lp_core.proofs.machine.start.Goals as goal

pub returns-in_ok-push-in-Apply-clause-same : goal.returns-in_ok-push-in-Apply-clause-same
returns-in_ok-push-in-Apply-clause-same c = λ left.
    let is : c.args.e.now ≡ Apply c.in-Apply.op c.in-Apply.a.value = sym c.e.view_is ∙ ap tree_of c.in-Apply.is in
    start_apply (program_of c.args.setting.now) c.args.frames.now.items c.push.new.self.items _ c.in-Apply.op c.args.e.now c.in-Apply.a.value c.deref.result.now (state_of c.args.world.now left) is c.in_ok-push-in-Apply.ensures.items c.deref.ensures refl

pub returns-in_ok-push-in-Apply-clause-smaller : goal.returns-in_ok-push-in-Apply-clause-smaller
returns-in_ok-push-in-Apply-clause-smaller c =
    let is : c.args.e.now ≡ Apply c.in-Apply.op c.in-Apply.a.value = sym c.e.view_is ∙ ap tree_of c.in-Apply.is in
    start_apply_less c.args.frames.now.items c.push.new.self.items _ c.in-Apply.op c.args.e.now c.in-Apply.a.value c.deref.result.now is c.in_ok-push-in-Apply.ensures.items c.deref.ensures

pub returns-in_ok-push-in-If-clause-same : goal.returns-in_ok-push-in-If-clause-same
returns-in_ok-push-in-If-clause-same c = λ left.
    let is : c.args.e.now ≡ If c.in-If.t.value c.in-If.a.value c.in-If.b.value = sym c.e.view_is ∙ ap tree_of c.in-If.is in
    start_if (program_of c.args.setting.now) c.args.frames.now.items c.push-in-If.new.self.items c.deref-in-If.result c.deref-in-If-2.result c.args.e.now c.in-If.t.value c.deref-in-If-3.result.now c.in-If.a.value c.in-If.b.value (state_of c.args.world.now left) is c.in_ok-push-in-If.ensures.items c.deref-in-If.ensures c.deref-in-If-2.ensures c.deref-in-If-3.ensures

pub returns-in_ok-push-in-If-clause-smaller : goal.returns-in_ok-push-in-If-clause-smaller
returns-in_ok-push-in-If-clause-smaller c =
    let is : c.args.e.now ≡ If c.in-If.t.value c.in-If.a.value c.in-If.b.value = sym c.e.view_is ∙ ap tree_of c.in-If.is in
    start_if_less c.args.frames.now.items c.push-in-If.new.self.items c.deref-in-If.result c.deref-in-If-2.result c.args.e.now c.in-If.t.value c.deref-in-If-3.result.now c.in-If.a.value c.in-If.b.value is c.in_ok-push-in-If.ensures.items c.deref-in-If.ensures c.deref-in-If-2.ensures c.deref-in-If-3.ensures

pub returns-in_ok-push-in-Match-clause-same : goal.returns-in_ok-push-in-Match-clause-same
returns-in_ok-push-in-Match-clause-same c = λ left.
    let is : c.args.e.now ≡ Match c.in-Match.t.value c.in-Match.x c.in-Match.cases.items (trees_of c.in-Match.bodies.items) = sym c.e.view_is ∙ ap tree_of c.in-Match.is in
    start_match (program_of c.args.setting.now) c.args.frames.now.items c.push-in-Match.new.self.items c.in-Match.x c.deref-in-Match.result c.deref-in-Match-2.result c.args.e.now c.in-Match.t.value c.deref-in-Match-3.result.now c.in-Match.cases.items c.in-Match.bodies.items (state_of c.args.world.now left) is c.in_ok-push-in-Match.ensures.items c.deref-in-Match.ensures.value c.deref-in-Match-2.ensures.value c.deref-in-Match-3.ensures

pub returns-in_ok-push-in-Match-clause-smaller : goal.returns-in_ok-push-in-Match-clause-smaller
returns-in_ok-push-in-Match-clause-smaller c =
    let is : c.args.e.now ≡ Match c.in-Match.t.value c.in-Match.x c.in-Match.cases.items (trees_of c.in-Match.bodies.items) = sym c.e.view_is ∙ ap tree_of c.in-Match.is in
    start_match_less c.args.frames.now.items c.push-in-Match.new.self.items c.in-Match.x c.deref-in-Match.result c.deref-in-Match-2.result c.args.e.now c.in-Match.t.value c.deref-in-Match-3.result.now c.in-Match.cases.items c.in-Match.bodies.items is c.in_ok-push-in-Match.ensures.items c.deref-in-Match-2.ensures.value c.deref-in-Match-3.ensures
