-- What printing a program leaves.
use Rattle.std.proofs.Common.{◌∙◌, Result, Ok, Err, OnOk}
use Rattle.lp_tree.specs.declared.tree.Program.{Program}
use Rattle.lp_write.specs.Writes.{Writing, Writes, write_ending}
use Rattle.lp_write.specs.declared.rust.WriteError.{WriteError}
use Rattle.lp_program.specs.Printed.{lines}
use Rattle.lp_reading_laws.specs.Printing.Printing.{KeepsIndent}
use Rattle.lp_reading_laws.proofs.Printing.Law.{indent_returns}

pub indent_kept : (result : Result (Unit {0}) WriteError) (old new : Writing) (program : Program) → Writes (write_ending result) old new (lines old.options program) → OnOk result (KeepsIndent old new program)
indent_kept (Ok done) old new program w = λ well stays. w.indent ∙ indent_returns old.options program old.indent well stays
indent_kept (Err error) old new program w = tt
