-- What the laws say: what is printed of a program is chosen as it, and programs of equal lines are equal, as far as a text tells them.
use Rattle.std.specs.Prelude.{◌≡◌, Bool, []}
use Rattle.std.specs.Str.{IsUtf8}
use Rattle.lp_tree.specs.declared.tree.Program.{Program}
use Rattle.lp_write.specs.declared.rust.Options.{Options}
use Rattle.lp_program.specs.Choosing.{IsChosen}
use Rattle.lp_program.specs.Printed.{lines}
use Rattle.lp_program.specs.Trees.{Forest, whole}
use Rattle.lp_reading_laws.specs.Printing.AsRead.{forest_read}
use Rattle.lp_reading_laws.specs.Printing.Laws.{text_of}
use Rattle.lp_reading_laws.specs.Printing.WellFormed.{IsWellFormed}
use Rattle.lp_reading_laws.specs.Texts.Laws.{AreParted}
use Rattle.lp_reading_laws.specs.Choosing.Laws.{told_trees, BodiesTold}

-- the trees of a program as its printed text tells them: user code as it reads, and no notes
abbrev pub printed_trees : Bool → Program → Forest
printed_trees whitespace program = told_trees (forest_read whitespace (whole program.entries.items))

-- a well-formed program whose holes are parted, and whose bodies of actions are told in its text
pub record IsTellable (options : Options) (program : Program) : Type 0 where
  pub well : IsWellFormed program
  pub parted : AreParted program.prefix (whole program.entries.items)
  pub bodies : BodiesTold program.prefix (text_of options program) [] (printed_trees options.whitespace program)

-- its text is chosen as each program with its prefix and these trees
abbrev pub PrintedIsChosen : Type 0
PrintedIsChosen = (options : Options) (program told : Program) → IsUtf8 (text_of options program) → IsTellable options program → told.prefix ≡ program.prefix → whole told.entries.items ≡ printed_trees options.whitespace program →
    IsChosen (text_of options program) told

-- two such programs of equal lines have one prefix, and the same trees
abbrev pub PrintedIsOne : Type 0
PrintedIsOne = (options : Options) (program other : Program) → IsUtf8 (text_of options program) → IsTellable options program → IsTellable options other → lines options program ≡ lines options other →
    (program.prefix ≡ other.prefix) × (printed_trees options.whitespace program ≡ printed_trees options.whitespace other)
