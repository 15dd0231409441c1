-- The text of the parsers of a grammar.
use Rattle.std.specs.Prelude.{◌≡◌, ℕ, List}
use Rattle.std.specs.Str.{IsUtf8}
use Rattle.lp_program.specs.Reads.{ReadsAs}
use Rattle.lp_repr.specs.declared.lr1.StartStates.{StartStates}
use Rattle.lp_repr.specs.declared.repr.Grammar.{Grammar}
use Rattle.lp_tree.specs.declared.tree.Program.{Program}
use Rattle.lp_write.specs.declared.rust.Options.{Options}
use Rattle.lp_assembly.specs.Built.{IsBuilt}
use Rattle.lp_agrees.specs.Agrees.{AllAgree}
use Rattle.lp_agrees.specs.Emission.{IsAsPrinted}
use Rattle.lp_fitting.specs.Fitting.{IsFitting}
use Rattle.lp_reading_laws.specs.Printing.AsRead.{IsRead}
use Rattle.lp_reading_laws.specs.Printing.Laws.{text_of}

-- the bytes of the lines of the program that is built of a grammar and its states, whose texts may stand where they do; they are
-- UTF-8, and read as that program. All runs of the program that they read as are those of the stack machine over the tables
pub record IsEmission (g : Grammar) (states : List StartStates) (options : Options) (text : List ℕ) : Type 0 where
  pub program : Program
  pub built : IsBuilt g states program
  pub commented : built.comments ≡ options.comments
  pub fitting : IsFitting program
  pub printed : text ≡ text_of options program
  pub utf8 : IsUtf8 text
  pub reads : (read : Program) → IsRead options.whitespace program read → ReadsAs text read
  pub agrees : (read : Program) → IsAsPrinted options program read → AllAgree read g states
