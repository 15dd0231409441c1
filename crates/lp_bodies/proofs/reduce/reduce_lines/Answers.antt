use Rattle.lp_view.specs.PartLists.{listed}
use Rattle.lp_view.proofs.Over.{over_step, over_done}
use Rattle.lp_maker.specs.Making.{making}
use Rattle.lp_bodies.specs.Lines.{lines_of}
use Rattle.lp_bodies.specs.Reductions.{work_of, reduce_line, reduce_lines}
use Rattle.lp_bodies.proofs.reduce.reduce_lines.Goals as goal

pub loop-line-preserved : goal.loop-line-preserved
loop-line-preserved c =
    let at = c.loop-line in
    let whole = reduce_lines (making c.args.maker.now) c.args.scope.now (listed c.args.form) in
    let new = c.reduce_line.new in
    over_step reduce_line (work_of (lines_of at.scope at.parts.items) (making at.maker)) (work_of (lines_of new.scope new.parts.items) (making new.maker)) whole c.next.result c.in-Some.line at.line-iterator c.next.new.self c.in-Some.is c.next.ensures.steps c.in_ok-reduce_line.ensures at.invariant

pub returns : goal.returns
returns c =
    let at = c.loop-line in
    let whole = reduce_lines (making c.args.maker.now) c.args.scope.now (listed c.args.form) in
    over_done reduce_line (work_of (lines_of at.scope at.parts.items) (making at.maker)) whole c.next.result at.line-iterator c.next.new.self c.in-None.is c.next.ensures.steps at.invariant
