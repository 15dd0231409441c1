use Rattle.std.proofs.lemmas.Result.{err_from_is_err_and}
use Rattle.lp_write.specs.Writes.{ending}
use Rattle.lp_write.proofs.Writing.{writes-then, faults-more}
use Rattle.lp_write.proofs.rust.RustWrite.write_entries.Goals as goal

pub returns-in_err-codes : goal.returns-in_err-codes
returns-in_err-codes g c =
    let p = err_from_is_err_and c.from_residual.result c.from_residual.ensures.1 in
    rw p.1 (faults-more _ _ _ _ c.in_err-codes.ensures)

pub returns : goal.returns
returns g c = writes-then (ending c.line.result) _ _ _ _ _ c.in_ok-codes.ensures c.line.ensures
