use Rattle.std.proofs.Common.{◌≡◌, ◌++◌, Vec, length, replicate, ap, ◌∙◌, arith, map}
use Rattle.std.proofs.lemmas.List.{length-map}
use Rattle.std.specs.declared.alloc.Global.{Global}
use Rattle.lp_core.specs.Datum.{Unset}
use Rattle.lp_core.specs.Val.{Val, Plain}
use Rattle.lp_core.specs.Store.{held}
use Rattle.lp_core.specs.FrameView.{state_of}
use Rattle.lp_core.proofs.Frames.{entering}
use Rattle.lp_core.proofs.machine.enter.Goals as goal

pub returns : goal.returns
returns c = λ p left.
    let vars : c.replace-caller.new.dest.items ≡ c.args.values.items ++ replicate c.args.function.now.slots (Plain Unset) = ap (λ (v : Vec Val Global). v.items) c.replace-caller.ensures.after ∙ c.in_ok-env.ensures in
    let was : c.replace-caller.result.items ≡ c.args.world.now.env.items = ap (λ (v : Vec Val Global). v.items) c.replace-caller.ensures.value in
    let many : c.len.result ≡ length (map held c.args.world.now.cells.items) = omega (arith, length-map c.args.world.now.cells.items held, c.args.world.now.cells.ok.0, c.len.ensures) in
    entering p c.args.frames.now.items c.push.new.self.items c.replace-caller.result c.replace-caller.new.dest c.len.result c.args.function.now c.args.values.items (state_of c.args.world.now left) vars was many c.in_ok-push.ensures.items
