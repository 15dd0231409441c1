use Rattle.lp_view.specs.PartLists.{listed}
use Rattle.lp_view.proofs.Over.{over_step, over_done}
use Rattle.lp_maker.specs.Making.{making}
use Rattle.lp_bodies.specs.Lines.{lines_of}
use Rattle.lp_bodies.specs.Reductions.{work_of}
use Rattle.lp_ascent_bodies.specs.AscentReductions.{ascent_line, ascent_lines}
use Rattle.lp_ascent_bodies.proofs.ascent_reduce.ascent_lines.Goals as goal

pub loop-line-preserved : goal.loop-line-preserved
loop-line-preserved c =
    let at = c.loop-line in
    over_step (ascent_line c.args.lines) (work_of (lines_of at.scope at.parts.items) (making at.maker)) (work_of (lines_of c.ascent_line.new.scope c.ascent_line.new.parts.items) (making c.ascent_line.new.maker)) (ascent_lines c.args.lines (making c.args.maker.now) c.args.scope.now (listed c.args.form)) c.next.result c.in-Some.line at.line-iterator c.next.new.self c.in-Some.is c.next.ensures.steps c.in_ok-ascent_line.ensures at.invariant

pub returns : goal.returns
returns c =
    let at = c.loop-line in
    over_done (ascent_line c.args.lines) (work_of (lines_of at.scope at.parts.items) (making at.maker)) (ascent_lines c.args.lines (making c.args.maker.now) c.args.scope.now (listed c.args.form)) c.next.result at.line-iterator c.next.new.self c.in-None.is c.next.ensures.steps at.invariant
