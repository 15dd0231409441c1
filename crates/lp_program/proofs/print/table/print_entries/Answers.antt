use Rattle.std.proofs.lemmas.Result.{err_from_is_err_and}
use Rattle.lp_write.specs.Writes.{write_ending}
use Rattle.lp_write.proofs.Writing.{none-part}
use Rattle.lp_program.proofs.Rows.{entries-written}
use Rattle.lp_program.proofs.print.table.print_entries.Goals as goal

pub returns-in_err-entries : goal.returns-in_err-entries
returns-in_err-entries g c =
    let p = err_from_is_err_and c.from_residual.result c.from_residual.ensures.1 in rw (p.1, p.2) (none-part _ _)

pub returns : goal.returns
returns g c =
    entries-written (write_ending c.write_table_row.result) _ _ c.in_ok-entries.entries.items _ c.in_ok-entries.ensures
    (rw c.as_slice.ensures.value at c.write_table_row.ensures.plain) (rw c.as_slice.ensures.value at c.write_table_row.ensures.commented)
