use Rattle.std.proofs.Common.{◌≡◌, ◌++◌, map, drop}
use Rattle.lp_program.specs.TableRows.{commented, row_entry}
use Rattle.lp_program.proofs.print.table.commented.Given as goal

abbrev pub invariant-loop-i : goal.invariant-loop-i
invariant-loop-i l =
    map row_entry l.row.items ++ commented (drop l.i l.numbers) (drop l.i l.comments) ≡ commented l.numbers l.comments
