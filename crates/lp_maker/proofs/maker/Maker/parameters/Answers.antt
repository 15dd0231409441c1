use Rattle.lp_view.specs.PartLists.{listed}
use Rattle.lp_view.proofs.Over.{over_step, over_done}
use Rattle.lp_maker.specs.Making.{bind_row, parameters}
use Rattle.lp_maker.proofs.maker.Maker.parameters.Goals as goal

pub loop-row-preserved : goal.loop-row-preserved
loop-row-preserved c =
    let at = c.loop-row in
    let prefix = c.args.self.now.prefix.now in
    over_step (bind_row prefix) at.scope c.bind_row.new.scope (parameters prefix (listed c.args.header)) c.next.result c.in-Some.row at.row-iterator c.next.new.self c.in-Some.is c.next.ensures.steps c.in_ok-bind_row.ensures at.invariant

pub returns : goal.returns
returns c =
    let at = c.loop-row in
    let prefix = c.args.self.now.prefix.now in
    over_done (bind_row prefix) at.scope (parameters prefix (listed c.args.header)) c.next.result at.row-iterator c.next.new.self c.in-None.is c.next.ensures.steps at.invariant
