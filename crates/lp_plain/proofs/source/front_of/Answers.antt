use Rattle.std.proofs.Common.{subst, sym}
use Rattle.lp_lines.specs.File.{IsCutFile}
use Rattle.lp_plain.proofs.Faults.{memory_fault, unspelled_fault, untabled_fault}
use Rattle.lp_plain.proofs.source.front_of.Goals as goal

pub returns-in-Err-clause-fault : goal.returns-in-Err-clause-fault
returns-in-Err-clause-fault c = (
  c.cut_file.result.0.now,
  c.cut_file.result.1.now,
  c.cut_file.ensures,
  unspelled_fault c.cut_file.result.0.now c.in-Err.fault c.unspelled.result c.in-Err.ensures.fault c.unspelled.ensures,
)

pub returns-in-Err-tables_of-clause-fault : goal.returns-in-Err-tables_of-clause-fault
returns-in-Err-tables_of-clause-fault c = (
  c.cut_file.result.0.now,
  c.cut_file.result.1.now,
  c.cut_file.ensures,
  untabled_fault c.cut_file.result.0.now c.in-Ok.both.0 c.in-Ok.both.1 c.in-Err-tables_of.fault c.untabled.result c.in-Ok.ensures.spelled c.in-Ok.ensures.lowered c.in-Err-tables_of.ensures.fault c.untabled.ensures,
)

pub returns-in_err-tail-clause-fault : goal.returns-in_err-tail-clause-fault
returns-in_err-tail-clause-fault c = memory_fault c.args.bytes.now c.cut_file.result.0.now c.cut_file.result.1.now _ c.cut_file.ensures c.from_residual.ensures.1

pub returns-clause-front : goal.returns-clause-front
returns-clause-front c = record {
  text = c.cut_file.result.0.now;
  cut = subst (IsCutFile c.args.bytes.now c.cut_file.result.0.now) (sym c.in_ok-tail.ensures.items) c.cut_file.ensures;
  grammar = (c.in-Ok.ensures.spelled, c.in-Ok.ensures.lowered);
  tables = c.in-Ok-tables_of.ensures.tables;
}
