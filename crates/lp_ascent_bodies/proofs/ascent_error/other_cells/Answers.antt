use Rattle.std.proofs.Common.{List, [], ap, ◌∙◌}
use Rattle.lp_core.specs.Tree.{Tree}
use Rattle.lp_view.specs.PartLists.{Form, listed, parts_left, parts_of, over}
use Rattle.lp_view.proofs.Over.{over_step, over_done}
use Rattle.lp_ascent_bodies.specs.AscentErrors.{cell_row, other_cells}
use Rattle.lp_ascent_bodies.proofs.Chains.{rest_after}
use Rattle.lp_ascent_bodies.proofs.ascent_error.other_cells.Goals as goal

pub loop-row-init : goal.loop-row-init
loop-row-init c =
    let names = c.args.scope.now in
    let all = parts_of (listed c.args.form) in
    let rows = c.next-topmost.new.self in
    let iterator = c.into_iter-row-iterator.result in
    ap (λ (ts : List Tree). over (cell_row names) ts (parts_left iterator)) c.new-cells.ensures.items
    ∙ ap (λ (fs : List Form). over (cell_row names) [] fs) (ap parts_left c.into_iter-row-iterator.ensures.into_iter_gives ∙ rest_after c.next-topmost.result c.parts-rows.result rows all c.parts-rows.ensures c.next-topmost.ensures.steps)

pub loop-row-preserved : goal.loop-row-preserved
loop-row-preserved c =
    let at = c.loop-row in
    let names = c.args.scope.now in
    over_step (cell_row names) at.cells.items c.cell_row.new.cells.items (other_cells names (listed c.args.form)) c.next.result c.in-Some.row at.row-iterator c.next.new.self c.in-Some.is c.next.ensures.steps c.in_ok-cell_row.ensures at.invariant

pub returns : goal.returns
returns c =
    let at = c.loop-row in
    let names = c.args.scope.now in
    over_done (cell_row names) at.cells.items (other_cells names (listed c.args.form)) c.next.result at.row-iterator c.next.new.self c.in-None.is c.next.ensures.steps at.invariant
