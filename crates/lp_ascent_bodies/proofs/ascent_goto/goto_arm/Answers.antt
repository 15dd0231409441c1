use Rattle.std.proofs.Common.{◌≡◌, ℕ, List, length, ap, ◌∙◌}
use Rattle.std.proofs.lemmas.Result.{on_ok_weaker}
use Rattle.lp_view.specs.PartLists.{listed, hole_of}
use Rattle.lp_maker.specs.Making.{making}
use Rattle.lp_bodies.specs.Arms.{gathered}
use Rattle.lp_bodies.specs.Lines.{lines_of}
use Rattle.lp_bodies.specs.Tables.{reading_of}
use Rattle.lp_ascent_bodies.specs.AscentGotos.{variant_case, arm_lines}
use Rattle.lp_ascent_bodies.proofs.Behind.{block_by}
use Rattle.lp_ascent_bodies.proofs.ascent_goto.goto_arm.Goals as goal

pub returns : goal.returns
returns c =
    let m = making c.args.maker.now in
    let names = c.args.scope.now in
    let line = listed c.args.line in
    let before = reading_of (gathered c.args.arms.now) m in
    let l = lines_of c.arm_lines.new.scope c.in_ok-parts.parts.items in
    let s = reading_of (gathered c.variant_case.new.arms) (making c.variant_case.new.maker) in
    let tests : s ≡ variant_case (hole_of 0 line) before = c.in_ok-variant_case.ensures ∙ ap (λ (t : List ℕ). variant_case t before) c.hole.ensures in
    on_ok_weaker c.body.result (λ e. block_by c.open-mark.result (length names.known) l (arm_lines m c.args.lines c.args.made names line) s (variant_case (hole_of 0 line) before) c.close.new.self (gathered c.body.new.self) c.block.result c.open-mark.ensures c.in_ok-parts.ensures tests c.close.ensures c.block.ensures e) c.body.ensures
