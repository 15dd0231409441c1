use Rattle.std.proofs.Common.{subst, sym}
use Rattle.lp_lines.specs.File.{IsCutFile}
use Rattle.lp_prepared.proofs.file.file_of.Goals as goal

pub returns-in-Ok-tables_and_tail-clause-file : goal.returns-in-Ok-tables_and_tail-clause-file
returns-in-Ok-tables_and_tail-clause-file c = record {
  lowered = c.in-Ok.ensures.lowered;
  tables = c.in-Ok-tables_and_tail.ensures.tables;
  tail = (c.cut_file.result.0.now, subst (IsCutFile c.args.bytes.now c.cut_file.result.0.now) (sym c.in-Ok-tables_and_tail.ensures.tail) c.cut_file.ensures, c.in-Ok.ensures.spelled);
}
