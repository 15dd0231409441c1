use Rattle.lp_view.specs.PartLists.{listed}
use Rattle.lp_view.proofs.Over.{over_step, over_done}
use Rattle.lp_bodies.specs.Inlining.{argument_row, call_arguments}
use Rattle.lp_bodies.proofs.inlining.call_arguments.Goals as goal

pub loop-row-preserved : goal.loop-row-preserved
loop-row-preserved c =
    let at = c.loop-row in
    let prefix = c.args.maker.now.prefix.now in
    let names = c.args.scope.now in
    over_step (argument_row prefix names) at.args.items c.argument_row.new.args.items (call_arguments prefix names (listed c.args.line)) c.next.result c.in-Some.row at.row-iterator c.next.new.self c.in-Some.is c.next.ensures.steps c.in_ok-argument_row.ensures at.invariant

pub returns : goal.returns
returns c =
    let at = c.loop-row in
    let prefix = c.args.maker.now.prefix.now in
    let names = c.args.scope.now in
    over_done (argument_row prefix names) at.args.items (call_arguments prefix names (listed c.args.line)) c.next.result at.row-iterator c.next.new.self c.in-None.is c.next.ensures.steps at.invariant
