use Rattle.lp_view.specs.PartLists.{listed}
use Rattle.lp_view.proofs.Over.{over_step, over_done}
use Rattle.lp_maker.specs.Making.{making}
use Rattle.lp_bodies.specs.MachineMethods.{recovering_of, recovery_row, recovery_rows}
use Rattle.lp_bodies.proofs.methods.recovery_rows.Goals as goal

pub loop-row-preserved : goal.loop-row-preserved
loop-row-preserved c =
    let at = c.loop-row in
    over_step recovery_row (recovering_of at.uses at.symbol (making at.maker)) (recovering_of c.recovery_row.new.uses c.recovery_row.new.symbol (making c.recovery_row.new.maker)) (recovery_rows (making c.args.maker.now) (listed c.args.form)) c.next.result c.in-Some.row at.row-iterator c.next.new.self c.in-Some.is c.next.ensures.steps c.in_ok-recovery_row.ensures at.invariant

pub returns : goal.returns
returns c =
    let at = c.loop-row in
    over_done recovery_row (recovering_of at.uses at.symbol (making at.maker)) (recovery_rows (making c.args.maker.now) (listed c.args.form)) c.next.result at.row-iterator c.next.new.self c.in-None.is c.next.ensures.steps at.invariant
