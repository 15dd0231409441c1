use Rattle.lp_view.specs.PartLists.{listed}
use Rattle.lp_view.proofs.Over.{over_step, over_done}
use Rattle.lp_bodies.specs.Arms.{gathered}
use Rattle.lp_bodies.specs.Tables.{goto_row, goto_rows}
use Rattle.lp_bodies.proofs.table.goto_rows.Goals as goal

pub loop-row-preserved : goal.loop-row-preserved
loop-row-preserved c =
    let at = c.loop-row in
    over_step (goto_row c.args.kind) (gathered at.arms) (gathered c.goto_row.new.arms) (goto_rows c.args.kind (listed c.args.arm)) c.next.result c.in-Some.row at.row-iterator c.next.new.self c.in-Some.is c.next.ensures.steps c.in_ok-goto_row.ensures at.invariant

pub returns : goal.returns
returns c =
    let at = c.loop-row in
    over_done (goto_row c.args.kind) (gathered at.arms) (goto_rows c.args.kind (listed c.args.arm)) c.next.result at.row-iterator c.next.new.self c.in-None.is c.next.ensures.steps at.invariant
