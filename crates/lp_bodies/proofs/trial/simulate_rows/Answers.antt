use Rattle.lp_view.specs.PartLists.{listed}
use Rattle.lp_view.proofs.Over.{over_step, over_done}
use Rattle.lp_bodies.specs.Arms.{gathered}
use Rattle.lp_bodies.specs.Trials.{simulate_row, simulate_rows}
use Rattle.lp_bodies.proofs.trial.simulate_rows.Goals as goal

pub loop-row-preserved : goal.loop-row-preserved
loop-row-preserved c =
    let at = c.loop-row in
    let prefix = c.args.maker.now.prefix.now in
    over_step (simulate_row prefix) (gathered at.arms) (gathered c.simulate_row.new.arms) (simulate_rows prefix (listed c.args.form)) c.next.result c.in-Some.row at.row-iterator c.next.new.self c.in-Some.is c.next.ensures.steps c.in_ok-simulate_row.ensures at.invariant

pub returns : goal.returns
returns c =
    let at = c.loop-row in
    let prefix = c.args.maker.now.prefix.now in
    over_done (simulate_row prefix) (gathered at.arms) (simulate_rows prefix (listed c.args.form)) c.next.result at.row-iterator c.next.new.self c.in-None.is c.next.ensures.steps at.invariant
