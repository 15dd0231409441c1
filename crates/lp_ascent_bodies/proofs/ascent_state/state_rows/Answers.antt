use Rattle.lp_view.specs.PartLists.{listed}
use Rattle.lp_view.proofs.Over.{over_step, over_done}
use Rattle.lp_maker.specs.Making.{making}
use Rattle.lp_ascent_bodies.specs.AscentStates.{stating_of, state_row, state_rows}
use Rattle.lp_ascent_bodies.proofs.ascent_state.state_rows.Goals as goal

pub loop-line-preserved : goal.loop-line-preserved
loop-line-preserved c =
    let at = c.loop-line in
    let new = c.state_row.new in
    let whole = state_rows (listed c.args.form) (stating_of c.args.scope.now c.args.state.now (making c.args.maker.now)) in
    over_step state_row (stating_of at.scope at.state (making at.maker)) (stating_of new.scope new.state (making new.maker)) whole c.next.result c.in-Some.line at.line-iterator c.next.new.self c.in-Some.is c.next.ensures.steps c.in_ok-state_row.ensures at.invariant

pub returns : goal.returns
returns c =
    let at = c.loop-line in
    let whole = state_rows (listed c.args.form) (stating_of c.args.scope.now c.args.state.now (making c.args.maker.now)) in
    over_done state_row (stating_of at.scope at.state (making at.maker)) whole c.next.result at.line-iterator c.next.new.self c.in-None.is c.next.ensures.steps at.invariant
