use Rattle.lp_view.specs.PartLists.{listed}
use Rattle.lp_view.proofs.Over.{over_step, over_done}
use Rattle.lp_bodies.specs.Lines.{lines_of}
use Rattle.lp_ascent_bodies.specs.AscentMoves.{take_row, take_rows}
use Rattle.lp_ascent_bodies.proofs.ascent.take_rows.Goals as goal

pub loop-line-preserved : goal.loop-line-preserved
loop-line-preserved c =
    let at = c.loop-line in
    let new = c.take_row.new in
    let whole = take_rows (listed c.args.form) (lines_of c.args.scope.now c.args.parts.now.items) in
    over_step take_row (lines_of at.scope at.parts.items) (lines_of new.scope new.parts.items) whole c.next.result c.in-Some.line at.line-iterator c.next.new.self c.in-Some.is c.next.ensures.steps c.in_ok-take_row.ensures at.invariant

pub returns : goal.returns
returns c =
    let at = c.loop-line in
    let whole = take_rows (listed c.args.form) (lines_of c.args.scope.now c.args.parts.now.items) in
    over_done take_row (lines_of at.scope at.parts.items) whole c.next.result at.line-iterator c.next.new.self c.in-None.is c.next.ensures.steps at.invariant
