use Rattle.lp_view.specs.PartLists.{listed}
use Rattle.lp_view.proofs.Over.{over_step, over_done}
use Rattle.lp_maker.specs.Making.{making}
use Rattle.lp_run.specs.Promised.{promises_of, promising_of, module_row, module_rows}
use Rattle.lp_run.proofs.promised.module_rows.Goals as goal

pub loop-row-preserved : goal.loop-row-preserved
loop-row-preserved c =
    let at = c.loop-row in
    over_step module_row (promising_of (promises_of at.promises.items) (making at.maker)) (promising_of (promises_of c.module_row.new.promises.items) (making c.module_row.new.maker)) (module_rows (making c.args.maker.now) (listed c.args.items)) c.next.result c.in-Some.row at.row-iterator c.next.new.self c.in-Some.is c.next.ensures.steps c.in_ok-module_row.ensures at.invariant

pub returns : goal.returns
returns c =
    let at = c.loop-row in
    over_done module_row (promising_of (promises_of at.promises.items) (making at.maker)) (module_rows (making c.args.maker.now) (listed c.args.items)) c.next.result at.row-iterator c.next.new.self c.in-None.is c.next.ensures.steps at.invariant
