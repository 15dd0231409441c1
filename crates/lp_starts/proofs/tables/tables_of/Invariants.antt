use Rattle.lp_starts.specs.Tables.{AreFirst, AreValid}
use Rattle.lp_starts.proofs.tables.tables_of.Given as goal

abbrev pub invariant-loop-start : goal.invariant-loop-start
invariant-loop-start l = record {
  first : AreFirst l.grammar l.start l.tables.items;
  valid : AreValid l.grammar l.tables.items;
}
