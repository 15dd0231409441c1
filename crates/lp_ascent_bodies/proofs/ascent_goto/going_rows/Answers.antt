use Rattle.lp_view.specs.PartLists.{listed}
use Rattle.lp_view.proofs.Over.{over_step, over_done}
use Rattle.lp_maker.specs.Making.{making}
use Rattle.lp_ascent_bodies.specs.AscentGotos.{going_of, going_row, going_rows}
use Rattle.lp_ascent_bodies.proofs.ascent_goto.going_rows.Goals as goal

pub loop-line-preserved : goal.loop-line-preserved
loop-line-preserved c =
    let at = c.loop-line in
    let new = c.going_row.new in
    let slots = c.args.slots in
    let whole = going_rows c.args.lines slots.0 slots.1 (listed c.args.form) (going_of c.args.scope.now c.args.gotos.now (making c.args.maker.now)) in
    over_step (going_row c.args.lines slots.0 slots.1) (going_of at.scope at.gotos (making at.maker)) (going_of new.scope new.gotos (making new.maker)) whole c.next.result c.in-Some.line at.line-iterator c.next.new.self c.in-Some.is c.next.ensures.steps c.in_ok-going_row.ensures at.invariant

pub returns : goal.returns
returns c =
    let at = c.loop-line in
    let slots = c.args.slots in
    let whole = going_rows c.args.lines slots.0 slots.1 (listed c.args.form) (going_of c.args.scope.now c.args.gotos.now (making c.args.maker.now)) in
    over_done (going_row c.args.lines slots.0 slots.1) (going_of at.scope at.gotos (making at.maker)) whole c.next.result at.line-iterator c.next.new.self c.in-None.is c.next.ensures.steps at.invariant
