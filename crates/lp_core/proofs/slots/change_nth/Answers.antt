use Rattle.std.proofs.Common.{◌<◌, arith}
use Rattle.std.proofs.lemmas.Option.{slice_get_read}
use Rattle.lp_core.specs.CellMeaning.{cell_change}
use Rattle.lp_core.proofs.Cells.{cell_changed}
use Rattle.lp_core.proofs.slots.change_nth.Goals as goal

pub returns-clause-does : goal.returns-clause-does
returns-clause-does c =
    let cells = c.args.world.now.cells in
    let below : c.args.n < cells.len = omega arith in
    let is = slice_get_read cells.items cells.len c.args.n c.index_mut.result.now cells.ok.0 below c.index_mut.ensures.value in
    cell_changed c.args.world.now.env.items c.args.world.now.taken c.args.n cells.items c.index_mut.result.now c.change.new.self (cell_change c.args.op.now) c.given.result c.in_ok-o.o is c.given.ensures c.in_ok-o.ensures
