use Rattle.lp_view.specs.PartLists.{listed}
use Rattle.lp_view.proofs.Over.{over_step, over_done}
use Rattle.lp_ascent_bodies.specs.AscentReductions.{return_row, returns as ends}
use Rattle.lp_ascent_bodies.proofs.ascent_reduce.returns.Goals as goal

pub loop-line-preserved : goal.loop-line-preserved
loop-line-preserved c =
    let at = c.loop-line in
    over_step return_row at.found c.return_row-found.result (ends (listed c.args.form)) c.next.result c.in-Some.line at.line-iterator c.next.new.self c.in-Some.is c.next.ensures.steps c.return_row-found.ensures at.invariant

pub returns : goal.returns
returns c =
    let at = c.loop-line in
    over_done return_row at.found (ends (listed c.args.form)) c.next.result at.line-iterator c.next.new.self c.in-None.is c.next.ensures.steps at.invariant
