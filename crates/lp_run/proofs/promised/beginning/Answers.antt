use Rattle.lp_view.specs.PartLists.{listed}
use Rattle.lp_view.proofs.Over.{over_step, over_done}
use Rattle.lp_maker.specs.Making.{making}
use Rattle.lp_run.specs.Promised.{promises_of, beginning_of, beginning_row, beginning}
use Rattle.lp_run.proofs.promised.beginning.Goals as goal

pub loop-row-preserved : goal.loop-row-preserved
loop-row-preserved c =
    let at = c.loop-row in
    over_step beginning_row (beginning_of at.begun.located (promises_of at.begun.actions.items) (making at.maker)) (beginning_of c.beginning_row.new.begun.located (promises_of c.beginning_row.new.begun.actions.items) (making c.beginning_row.new.maker)) (beginning (making c.args.maker.now) (listed c.args.form)) c.next.result c.in-Some.row at.row-iterator c.next.new.self c.in-Some.is c.next.ensures.steps c.in_ok-beginning_row.ensures at.invariant

pub returns : goal.returns
returns c =
    let at = c.loop-row in
    over_done beginning_row (beginning_of at.begun.located (promises_of at.begun.actions.items) (making at.maker)) (beginning (making c.args.maker.now) (listed c.args.form)) c.next.result at.row-iterator c.next.new.self c.in-None.is c.next.ensures.steps at.invariant
