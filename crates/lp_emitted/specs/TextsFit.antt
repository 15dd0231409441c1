-- Programs whose uses, user code and tables fit, whatever stands below what.
use Rattle.std.specs.Prelude.{All}
use Rattle.lp_form.specs.Templates.{steps_of}
use Rattle.lp_tree.specs.declared.tree.Entry.{Entry}
use Rattle.lp_tree.specs.declared.tree.Program.{Program}
use Rattle.lp_program.specs.Trees.{content}
use Rattle.lp_reading_laws.specs.Printing.WellFormed.{StepFits}

-- the uses and the user code of a part end where they should, and its table has numbers of 32 bits
abbrev pub StepsFit : Entry → Type 0
StepsFit e = All (λ s. StepFits (content e) s.0) (steps_of e.part)

-- of a program: those of each part
abbrev pub AreStepsFit : Program → Type 0
AreStepsFit program = All StepsFit program.entries.items
