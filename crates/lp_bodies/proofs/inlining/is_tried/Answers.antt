use Rattle.lp_view.specs.PartLists.{listed}
use Rattle.lp_view.proofs.Over.{over_step, over_done}
use Rattle.lp_bodies.specs.Inlining.{ends_so, is_tried}
use Rattle.lp_bodies.proofs.inlining.is_tried.Goals as goal

pub loop-row-preserved : goal.loop-row-preserved
loop-row-preserved c =
    let at = c.loop-row in
    over_step ends_so at.found c.ends_so-found.result (is_tried (listed c.args.line)) c.next.result c.in-Some.row at.row-iterator c.next.new.self c.in-Some.is c.next.ensures.steps c.ends_so-found.ensures at.invariant

pub returns : goal.returns
returns c =
    let at = c.loop-row in
    over_done ends_so at.found (is_tried (listed c.args.line)) c.next.result at.row-iterator c.next.new.self c.in-None.is c.next.ensures.steps at.invariant
