-- What the laws say: an emitted text is read as the program that was built.
use Rattle.std.specs.Prelude.{ℕ, List, []}
use Rattle.lp_repr.specs.declared.lr1.StartStates.{StartStates}
use Rattle.lp_repr.specs.declared.repr.Grammar.{Grammar}
use Rattle.lp_tree.specs.declared.tree.Program.{Program}
use Rattle.lp_write.specs.declared.rust.Options.{Options}
use Rattle.lp_program.specs.Choosing.{IsChosen, IsRefused}
use Rattle.lp_program.specs.Trees.{whole}
use Rattle.lp_program.specs.declared.read.reader.ReadFault.TheVariants as fault
use Rattle.lp_fitting.specs.Fitting.{IsFitting}
use Rattle.lp_reading_laws.specs.Texts.Laws.{AreParted}
use Rattle.lp_reading_laws.specs.Choosing.Laws.{BodiesTold}
use Rattle.lp_reading_laws.specs.Printed.Laws.{printed_trees}
use Rattle.lp_agrees.specs.Agrees.{AllAgree}
use Rattle.lp_agrees.specs.Emission.{IsAsPrinted}
use Rattle.lp_emit.specs.Texts.{IsEmission}

-- where the texts of a program may stand where they do, all its holes are parted
abbrev pub FittingIsParted : Type 0
FittingIsParted = (program : Program) → IsFitting program → AreParted program.prefix (whole program.entries.items)

-- a text tells the bodies of actions of a program that it was printed of
abbrev pub AreBodiesTold : Options → Program → List ℕ → Type 0
AreBodiesTold options program text = BodiesTold program.prefix text [] (printed_trees options.whitespace program)

-- what is emitted tells all of them
abbrev pub EmissionTellsBodies : Type 0
EmissionTellsBodies = (g : Grammar) (states : List StartStates) (options : Options) (text : List ℕ) (e : IsEmission g states options text) → AreBodiesTold options e.program text

-- what is emitted is chosen as each program that is as was printed
abbrev pub EmissionIsChosen : Type 0
EmissionIsChosen = (g : Grammar) (states : List StartStates) (options : Options) (text : List ℕ) (e : IsEmission g states options text) (told : Program) → IsAsPrinted options e.program told → IsChosen text told

-- and as no other
abbrev pub EmissionIsRead : Type 0
EmissionIsRead = (g : Grammar) (states : List StartStates) (options : Options) (text : List ℕ) (e : IsEmission g states options text) (chosen : Program) → IsChosen text chosen → IsAsPrinted options e.program chosen

-- and refused only for want of memory
abbrev pub EmissionIsNotRefused : Type 0
EmissionIsNotRefused = (g : Grammar) (states : List StartStates) (options : Options) (text : List ℕ) (e : IsEmission g states options text) (line : ℕ) → IsRefused text (fault.NoForm line) → ⊥

-- each program that an emission is chosen as agrees with the tables
abbrev pub EmissionAgreesAsRead : Type 0
EmissionAgreesAsRead = (g : Grammar) (states : List StartStates) (options : Options) (text : List ℕ) (e : IsEmission g states options text) → (chosen : Program) → IsChosen text chosen → AllAgree chosen g states
