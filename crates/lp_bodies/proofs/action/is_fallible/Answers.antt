use Rattle.lp_view.specs.PartLists.{listed}
use Rattle.lp_view.proofs.Over.{over_step, over_done}
use Rattle.lp_bodies.specs.Actions.{fallible_row, is_fallible}
use Rattle.lp_bodies.proofs.action.is_fallible.Goals as goal

pub loop-row-preserved : goal.loop-row-preserved
loop-row-preserved c =
    let at = c.loop-row in
    over_step (fallible_row c.args.error.now) at.fallible c.fallible_row-fallible.result (is_fallible c.args.error.now (listed c.args.header)) c.next.result c.in-Some.row at.row-iterator c.next.new.self c.in-Some.is c.next.ensures.steps c.fallible_row-fallible.ensures at.invariant

pub returns : goal.returns
returns c =
    let at = c.loop-row in
    over_done (fallible_row c.args.error.now) at.fallible (is_fallible c.args.error.now (listed c.args.header)) c.next.result at.row-iterator c.next.new.self c.in-None.is c.next.ensures.steps at.invariant
