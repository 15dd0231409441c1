use Rattle.std.proofs.Common.{◌≡◌, ap, ◌∙◌}
use Rattle.lp_core.specs.Tree.{Tree}
use Rattle.lp_view.specs.PartLists.{listed}
use Rattle.lp_view.proofs.Over.{over_step, over_done}
use Rattle.lp_maker.specs.Making.{making}
use Rattle.lp_bodies.specs.Actions.{body_of, body_of_lines}
use Rattle.lp_bodies.specs.Lines.{lines_of}
use Rattle.lp_bodies.specs.Inlining.{inline_line, inline_lines}
use Rattle.lp_bodies.proofs.inlining.inline_body.Goals as goal

pub loop-line-preserved : goal.loop-line-preserved
loop-line-preserved c =
    let at = c.loop-line in
    let m = making c.args.maker.now in
    let whole = inline_lines m c.args.scope.now (listed c.args.body) in
    over_step (inline_line m) (lines_of at.scope at.parts.items) (lines_of c.inline_line.new.scope c.inline_line.new.parts.items) whole c.next.result c.in-Some.line at.line-iterator c.next.new.self c.in-Some.is c.next.ensures.steps c.in_ok-inline_line.ensures at.invariant

pub returns : goal.returns
returns c =
    let at = c.loop-line in
    let m = making c.args.maker.now in
    let whole = inline_lines m c.args.scope.now (listed c.args.body) in
    let lines : lines_of at.scope at.parts.items ≡ whole = over_done (inline_line m) (lines_of at.scope at.parts.items) whole c.next.result at.line-iterator c.next.new.self c.in-None.is c.next.ensures.steps at.invariant in
    ap (λ (v : Tree). body_of v at.scope) c.block.ensures ∙ ap body_of_lines lines
