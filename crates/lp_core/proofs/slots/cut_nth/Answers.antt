use Rattle.std.proofs.Common.{◌<◌, arith}
use Rattle.std.proofs.lemmas.Option.{slice_get_read}
use Rattle.lp_core.specs.CellMeaning.{cut_to}
use Rattle.lp_core.proofs.Cells.{cell_did}
use Rattle.lp_core.proofs.slots.cut_nth.Goals as goal

pub returns-clause-does : goal.returns-clause-does
returns-clause-does c =
    let cells = c.args.world.now.cells in
    let below : c.args.n < cells.len = omega arith in
    let is = slice_get_read cells.items cells.len c.args.n c.index_mut.result.now cells.ok.0 below c.index_mut.ensures.value in
    cell_did c.args.world.now.env.items c.args.world.now.taken c.args.n cells.items c.index_mut.result.now c.truncate-could.new.self (cut_to c.args.length) c.done.result c.truncate-could.result is c.done.ensures c.truncate-could.ensures
