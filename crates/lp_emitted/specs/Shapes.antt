-- Programs whose parts stand below one another as the templates say, whatever their texts are.
use Rattle.std.specs.Prelude.{◌≡◌, true, List, length}
use Rattle.lp_form.specs.Templates.{steps_of}
use Rattle.lp_form.specs.declared.part.Part.{Part}
use Rattle.lp_tree.specs.declared.tree.Program.{Program}
use Rattle.lp_program.specs.Reads.{parts_in, hole_count, IsProgram}
use Rattle.lp_program.specs.Trees.{Content, Forest, whole}
use Rattle.lp_program.specs.Trees.Forest.{bare, tree}
use Rattle.lp_reading_laws.specs.Printing.WellFormed.{is_shared}

-- a part with these below it: it has as many holes as its template, whose steps share out what stands below
pub record IsShapedPart (c : Content) (below : List Part) : Type 0 where
  pub count : length c.holes ≡ hole_count c.part
  pub shared : is_shared (steps_of c.part) below ≡ true

-- trees side by side
abbrev pub AreShaped : Forest → Type 0
AreShaped bare = Unit {0}
AreShaped (tree c below after) = IsShapedPart c (parts_in below) × AreShaped below × AreShaped after

-- a program
pub record IsShaped (program : Program) : Type 0 where
  pub first : IsProgram (whole program.entries.items)
  pub trees : AreShaped (whole program.entries.items)
