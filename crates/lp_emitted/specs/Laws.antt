-- What the laws say: what is built of what may be emitted is well formed where its texts fit, and so it reads back.
use Rattle.std.specs.Prelude.{◌≡◌, Bool, true, List}
use Rattle.lp_repr.specs.declared.lr1.StartStates.{StartStates}
use Rattle.lp_repr.specs.declared.repr.Grammar.{Grammar}
use Rattle.lp_tree.specs.declared.tree.Program.{Program}
use Rattle.lp_program.specs.Reads.{ReadsAs, is_prefix}
use Rattle.lp_write.specs.declared.rust.Options.{Options}
use Rattle.lp_assembly.specs.Built.{AllFit, IsBuilt, IsBuiltWith}
use Rattle.lp_fitting.specs.Fitting.{IsFitting}
use Rattle.lp_reading_laws.specs.Printing.AsRead.{IsRead}
use Rattle.lp_reading_laws.specs.Printing.Laws.{text_of}
use Rattle.lp_reading_laws.specs.Printing.WellFormed.{IsWellFormed}
use Rattle.lp_emitted.specs.Emittable.{IsEmittable}
use Rattle.lp_emitted.specs.Shapes.{IsShaped}
use Rattle.lp_emitted.specs.TextsFit.{AreStepsFit}

-- the parts of each program that is built stand below one another as the templates say, for all grammars and tables
abbrev pub BuiltIsShaped : Type 0
BuiltIsShaped = (g : Grammar) (states : List StartStates) (program : Program) → IsBuilt g states program → IsShaped program

-- of a grammar and its states one program with comments is built, and one without, as far as texts tell: all that are have the same text, whatever
-- the options
abbrev pub BuiltIsOne : Type 0
BuiltIsOne = (g : Grammar) (states : List StartStates) (comments : Bool) (one other : Program) (options : Options) → IsBuiltWith comments g states one → IsBuiltWith comments g states other → text_of options one ≡ text_of options other

-- a program of this shape is well formed where its texts fit
abbrev pub ShapedIsWellFormed : Type 0
ShapedIsWellFormed = (program : Program) → IsShaped program → is_prefix program.prefix ≡ true → IsFitting program → AreStepsFit program → IsWellFormed program

-- of what may be emitted, the uses, user code and tables of the program that is built fit, where its other texts do
abbrev pub EmittedFits : Type 0
EmittedFits = (g : Grammar) (states : List StartStates) (program : Program) → IsEmittable g states → IsBuilt g states program → IsFitting program → AreStepsFit program

-- and its prefix is one
abbrev pub EmittedHasPrefix : Type 0
EmittedHasPrefix = (g : Grammar) (states : List StartStates) (program : Program) → IsEmittable g states → IsBuilt g states program → IsFitting program → is_prefix program.prefix ≡ true

-- so it is well formed
abbrev pub EmittedIsWellFormed : Type 0
EmittedIsWellFormed = (g : Grammar) (states : List StartStates) (program : Program) → IsEmittable g states → IsBuilt g states program → IsFitting program → IsWellFormed program

-- and its text reads as it, whatever the options
abbrev pub EmittedReadsBack : Type 0
EmittedReadsBack = (g : Grammar) (states : List StartStates) (program : Program) (options : Options) (read : Program) → IsEmittable g states → IsBuilt g states program → IsFitting program →
    IsRead options.whitespace program read → ReadsAs (text_of options program) read

-- the entries of its tables are numbers of 32 bits
abbrev pub EmittedEntriesFit : Type 0
EmittedEntriesFit = (g : Grammar) (states : List StartStates) → IsEmittable g states → AllFit states
