use Rattle.lp_view.specs.PartLists.{listed}
use Rattle.lp_view.proofs.Over.{over_step, over_done}
use Rattle.lp_bodies.specs.MachineMethods.{field_row, field_rows}
use Rattle.lp_bodies.proofs.methods.field_rows.Goals as goal

pub loop-row-preserved : goal.loop-row-preserved
loop-row-preserved c =
    let at = c.loop-row in
    over_step (field_row c.args.fields.now) at.args.items c.field_row.new.args.items (field_rows c.args.fields.now (listed c.args.form)) c.next.result c.in-Some.row at.row-iterator c.next.new.self c.in-Some.is c.next.ensures.steps c.in_ok-field_row.ensures at.invariant

pub returns : goal.returns
returns c =
    let at = c.loop-row in
    over_done (field_row c.args.fields.now) at.args.items (field_rows c.args.fields.now (listed c.args.form)) c.next.result at.row-iterator c.next.new.self c.in-None.is c.next.ensures.steps at.invariant
