use Rattle.lp_view.specs.PartLists.{listed}
use Rattle.lp_view.proofs.Over.{over_step, over_done}
use Rattle.lp_bodies.specs.Arms.{gathered}
use Rattle.lp_ascent_bodies.specs.AscentTrials.{ascent_row, ascent_rows}
use Rattle.lp_ascent_bodies.proofs.ascent_trial.ascent_rows.Goals as goal

pub loop-row-preserved : goal.loop-row-preserved
loop-row-preserved c =
    let at = c.loop-row in
    over_step ascent_row (gathered at.arms) (gathered c.ascent_row.new.arms) (ascent_rows (listed c.args.form)) c.next.result c.in-Some.row at.row-iterator c.next.new.self c.in-Some.is c.next.ensures.steps c.in_ok-ascent_row.ensures at.invariant

pub returns : goal.returns
returns c =
    let at = c.loop-row in
    over_done ascent_row (gathered at.arms) (ascent_rows (listed c.args.form)) c.next.result at.row-iterator c.next.new.self c.in-None.is c.next.ensures.steps at.invariant
