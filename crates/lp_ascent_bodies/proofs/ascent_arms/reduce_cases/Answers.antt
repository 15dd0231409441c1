use Rattle.lp_view.specs.PartLists.{listed}
use Rattle.lp_view.proofs.Over.{over_step, over_done}
use Rattle.lp_maker.specs.Making.{making}
use Rattle.lp_bodies.specs.Arms.{gathered}
use Rattle.lp_bodies.specs.Tables.{reading_of}
use Rattle.lp_ascent_bodies.specs.AscentArms.{case_row, reduce_cases}
use Rattle.lp_ascent_bodies.proofs.ascent_arms.reduce_cases.Goals as goal

pub loop-row-preserved : goal.loop-row-preserved
loop-row-preserved c =
    let at = c.loop-row in
    let new = c.case_row.new in
    let whole = reduce_cases (listed c.args.line) (reading_of (gathered c.args.arms.now) (making c.args.maker.now)) in
    over_step case_row (reading_of (gathered at.arms) (making at.maker)) (reading_of (gathered new.arms) (making new.maker)) whole c.next.result c.in-Some.row at.row-iterator c.next.new.self c.in-Some.is c.next.ensures.steps c.in_ok-case_row.ensures at.invariant

pub returns : goal.returns
returns c =
    let at = c.loop-row in
    let whole = reduce_cases (listed c.args.line) (reading_of (gathered c.args.arms.now) (making c.args.maker.now)) in
    over_done case_row (reading_of (gathered at.arms) (making at.maker)) whole c.next.result at.row-iterator c.next.new.self c.in-None.is c.next.ensures.steps at.invariant
