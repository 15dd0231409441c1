-- What is emitted of a grammar agrees with its tables.
use Rattle.std.specs.Prelude.{◌≡◌, List}
use Rattle.lp_repr.specs.declared.lr1.StartStates.{StartStates}
use Rattle.lp_repr.specs.declared.repr.Grammar.{Grammar}
use Rattle.lp_repr.specs.declared.repr.LrCodeGeneration.{LrCodeGeneration}
use Rattle.lp_repr.specs.declared.repr.LrCodeGeneration.TheVariants.{RecursiveAscent, TableDriven, TestAll}
use Rattle.lp_tree.specs.declared.tree.Program.{Program}
use Rattle.lp_write.specs.declared.rust.Options.{Options}
use Rattle.lp_program.specs.Trees.{whole}
use Rattle.lp_fitting.specs.Fitting.{IsFitting}
use Rattle.lp_reading_laws.specs.Printed.Laws.{printed_trees}
use Rattle.lp_assembly.specs.Built.{IsBuilt}
use Rattle.lp_emitted.specs.Emittable.{IsEmittable}
use Rattle.lp_agrees.specs.Agrees.{AllAgree}

-- the code that is asked for is table-driven
abbrev pub IsByTables : LrCodeGeneration → Type 0
IsByTables RecursiveAscent = ⊥
IsByTables TableDriven = Unit {0}
IsByTables TestAll = Unit {0}

-- a program has the prefix of one that was printed, and its trees, as far as a text tells them
abbrev pub IsAsPrinted : Options → Program → Program → Type 0
IsAsPrinted options built read = (read.prefix ≡ built.prefix) × (whole read.entries.items ≡ printed_trees options.whitespace built)

-- each program that the text of an emission reads as agrees with the tables of each start
abbrev pub EmissionAgrees : Grammar → List StartStates → Options → Type 0
EmissionAgrees g states options =
    IsEmittable g states
    → (built read : Program) → IsBuilt g states built → IsFitting built → IsAsPrinted options built read → AllAgree read g states
