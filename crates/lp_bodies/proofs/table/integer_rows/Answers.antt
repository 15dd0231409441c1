use Rattle.lp_view.specs.PartLists.{listed}
use Rattle.lp_view.proofs.Over.{over_step, over_done}
use Rattle.lp_maker.specs.Making.{making}
use Rattle.lp_bodies.specs.Arms.{gathered}
use Rattle.lp_bodies.specs.Tables.{reading_of, integer_row, integer_rows}
use Rattle.lp_bodies.proofs.table.integer_rows.Goals as goal

pub loop-row-preserved : goal.loop-row-preserved
loop-row-preserved c =
    let at = c.loop-row in
    over_step integer_row (reading_of (gathered at.arms) (making at.maker)) (reading_of (gathered c.integer_row.new.arms) (making c.integer_row.new.maker)) (integer_rows (making c.args.maker.now) (listed c.args.form)) c.next.result c.in-Some.row at.row-iterator c.next.new.self c.in-Some.is c.next.ensures.steps c.in_ok-integer_row.ensures at.invariant

pub returns : goal.returns
returns c =
    let at = c.loop-row in
    over_done integer_row (reading_of (gathered at.arms) (making at.maker)) (integer_rows (making c.args.maker.now) (listed c.args.form)) c.next.result at.row-iterator c.next.new.self c.in-None.is c.next.ensures.steps at.invariant
