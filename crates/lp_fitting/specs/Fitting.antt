-- Programs whose texts may stand where they do.
use Rattle.std.specs.Prelude.{◌≡◌, ℕ, ◌<◌, true, List, [], length, map, All}
use Rattle.std.specs.Str.{IsUtf8}
use Rattle.lp_form.specs.Templates.{holes_of}
use Rattle.lp_form.specs.declared.template.Kind.{Kind}
use Rattle.lp_tree.specs.declared.tree.Entry.{Entry}
use Rattle.lp_tree.specs.declared.tree.Program.{Program}
use Rattle.lp_spelling.specs.Fillings.{Fits}
use Rattle.lp_tree.specs.ProgramTree.{noted}
use Rattle.lp_program.specs.Trees.{whole}
use Rattle.lp_reading_laws.specs.Holes.Parted.{IsParted}
use Rattle.lp_fitting.specs.Bodies.{BodiesSuit}
use Rattle.lp_reading_laws.specs.Printing.WellFormed.{HolesFill, IsNote, IsSteady, is_pattern}

-- a text that may stand in a hole, and is not empty where it is a pattern
abbrev pub MayStand : List ℕ → Kind → List ℕ → Type 0
MayStand prefix kind text = Fits prefix kind text × (is_pattern kind ≡ true → 0 < length text)

-- the holes of a part hold what they may and are parted, and its notes are comments, none of which ends with an opening bracket
pub record HolesFit (prefix : List ℕ) (e : Entry) : Type 0 where
  pub fills : HolesFill prefix (holes_of e.part) e.holes.items
  pub utf8 : All IsUtf8 e.holes.items
  pub parted : IsParted prefix e.part e.holes.items
  pub notes : All IsNote (map noted e.notes.items)
  pub steady : All IsSteady (map noted e.notes.items)

-- of a program: the prefix isn't empty, the holes of each part fit, and the bodies of actions suit the parameters before them
pub record IsFitting (program : Program) : Type 0 where
  pub prefix_some : 0 < length program.prefix
  pub prefix_utf8 : IsUtf8 program.prefix
  pub parts : All (HolesFit program.prefix) program.entries.items
  pub bodies : BodiesSuit program.prefix [] (whole program.entries.items)
