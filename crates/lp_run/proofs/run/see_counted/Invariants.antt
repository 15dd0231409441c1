-- The tables so far are counted.
use Rattle.std.proofs.Common.{take}
use Rattle.std.specs.Prelude.{All}
use Rattle.lp_run.specs.RunTold.{IsCounted}
use Rattle.lp_run.proofs.run.see_counted.Given as goal

abbrev pub invariant-loop-table : goal.invariant-loop-table
invariant-loop-table l = All IsCounted (take l.table-index l.tables)
