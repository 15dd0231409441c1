use Rattle.lp_view.specs.PartLists.{listed}
use Rattle.lp_view.proofs.Over.{over_step, over_done}
use Rattle.lp_maker.specs.Making.{making}
use Rattle.lp_bodies.specs.Arms.{gathered}
use Rattle.lp_bodies.specs.Reductions.{arming_of, reduce_row, reduce_from}
use Rattle.lp_bodies.proofs.reduce.reduce_rows.Goals as goal

pub loop-row-preserved : goal.loop-row-preserved
loop-row-preserved c =
    let at = c.loop-row in
    let whole = reduce_from (gathered c.args.arms.now) (making c.args.maker.now) (listed c.args.form) in
    over_step reduce_row (arming_of (gathered at.arms) at.kind (making at.maker)) (arming_of (gathered c.reduce_row.new.arms) c.in_ok-kind.kind (making c.reduce_row.new.maker)) whole c.next.result c.in-Some.row at.row-iterator c.next.new.self c.in-Some.is c.next.ensures.steps c.in_ok-kind.ensures at.invariant

pub returns : goal.returns
returns c =
    let at = c.loop-row in
    let whole = reduce_from (gathered c.args.arms.now) (making c.args.maker.now) (listed c.args.form) in
    over_done reduce_row (arming_of (gathered at.arms) at.kind (making at.maker)) whole c.next.result at.row-iterator c.next.new.self c.in-None.is c.next.ensures.steps at.invariant
