use Rattle.lp_view.specs.PartLists.{listed}
use Rattle.lp_view.proofs.Over.{over_step, over_done}
use Rattle.lp_bodies.specs.Reductions.{type_row, element_type}
use Rattle.lp_bodies.proofs.reduce.element_type.Goals as goal

pub loop-row-preserved : goal.loop-row-preserved
loop-row-preserved c =
    let at = c.loop-row in
    let step = type_row c.args.prefix.now c.args.before.now c.args.after in
    over_step step at.kind c.type_row-kind.result (element_type c.args.prefix.now c.args.before.now c.args.after (listed c.args.header)) c.next.result c.in-Some.row at.row-iterator c.next.new.self c.in-Some.is c.next.ensures.steps c.type_row-kind.ensures at.invariant

pub returns : goal.returns
returns c =
    let at = c.loop-row in
    let step = type_row c.args.prefix.now c.args.before.now c.args.after in
    over_done step at.kind (element_type c.args.prefix.now c.args.before.now c.args.after (listed c.args.header)) c.next.result at.row-iterator c.next.new.self c.in-None.is c.next.ensures.steps at.invariant
