use Rattle.std.proofs.Common.{◌≤◌, length, map, drop}
use Rattle.lp_write.specs.Writes.{options_of, writing}
use Rattle.lp_program.specs.TableRows.{rows_from, table_lines}
use Rattle.lp_program.proofs.Progress.{Left}
use Rattle.lp_program.proofs.print.table.print_table.Given as goal
use Rattle.lp_tree.specs.ProgramTree.{noted}

abbrev pub invariant-loop-i : goal.invariant-loop-i
invariant-loop-i g l = record {
  within : l.from ≤ length l.numbers;
  left : Left (writing g.W.Sink.told l.initial.out) (writing g.W.Sink.told l.out)
      (table_lines (options_of l.initial.out) l.numbers (map noted l.notes))
      (rows_from (options_of l.initial.out) l.i l.from (drop l.from l.numbers) (map noted (drop l.i l.notes)));
}
