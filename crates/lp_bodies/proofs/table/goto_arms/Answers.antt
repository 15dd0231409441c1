use Rattle.lp_view.specs.PartLists.{listed}
use Rattle.lp_view.proofs.Over.{over_step, over_done}
use Rattle.lp_bodies.specs.Arms.{gathered}
use Rattle.lp_bodies.specs.Tables.{goto_arm, goto_arms}
use Rattle.lp_bodies.proofs.table.goto_arms.Goals as goal

pub loop-arm-preserved : goal.loop-arm-preserved
loop-arm-preserved c =
    let at = c.loop-arm in
    over_step (goto_arm c.args.kind) (gathered at.arms) (gathered c.goto_arm.new.arms) (goto_arms c.args.kind (listed c.args.form)) c.next.result c.in-Some.arm at.arm-iterator c.next.new.self c.in-Some.is c.next.ensures.steps c.in_ok-goto_arm.ensures at.invariant

pub returns : goal.returns
returns c =
    let at = c.loop-arm in
    over_done (goto_arm c.args.kind) (gathered at.arms) (goto_arms c.args.kind (listed c.args.form)) c.next.result at.arm-iterator c.next.new.self c.in-None.is c.next.ensures.steps at.invariant
