use Rattle.lp_view.specs.PartLists.{listed}
use Rattle.lp_view.proofs.Over.{over_step, over_done}
use Rattle.lp_bodies.specs.Actions.{counted_row, parameter_count}
use Rattle.lp_bodies.proofs.action.parameter_count.Goals as goal

pub loop-row-preserved : goal.loop-row-preserved
loop-row-preserved c =
    let at = c.loop-row in
    let prefix = c.args.prefix.now in
    over_step (counted_row prefix) at.count c.in_ok-count.count (parameter_count prefix (listed c.args.header)) c.next.result c.in-Some.row at.row-iterator c.next.new.self c.in-Some.is c.next.ensures.steps c.in_ok-count.ensures at.invariant

pub returns : goal.returns
returns c =
    let at = c.loop-row in
    let prefix = c.args.prefix.now in
    over_done (counted_row prefix) at.count (parameter_count prefix (listed c.args.header)) c.next.result at.row-iterator c.next.new.self c.in-None.is c.next.ensures.steps at.invariant
