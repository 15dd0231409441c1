-- What printing a program leaves.
use Rattle.std.specs.Prelude.{◌≡◌, ◌<◌, true}
use Rattle.lp_tree.specs.declared.tree.Program.{Program}
use Rattle.lp_write.specs.Writes.{Writing}
use Rattle.lp_program.specs.Printed.{lines}
use Rattle.lp_reading_laws.specs.Printing.Levels.{never_stays}
use Rattle.lp_reading_laws.specs.Printing.WellFormed.{IsWellFormed}

-- behind a well-formed program the indent is what it was, unless it stayed where a raised one doesn't fit 64 bits
abbrev pub KeepsIndent : Writing → Writing → Program → Type 0
KeepsIndent old new program = IsWellFormed program → (0 < old.indent → never_stays old.indent (lines old.options program) ≡ true) → new.indent ≡ old.indent
