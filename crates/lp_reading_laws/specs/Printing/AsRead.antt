-- A program as its printed text reads: all is as it was, but user code has the blanks of its line in front, and none is printed for `()`.
use Rattle.std.specs.Prelude.{◌≡◌, ℕ, Bool, if◌then◌else◌, List, [], ◌∷◌, ◌++◌, codes}
use Rattle.std.specs.Str.{bytes_eq}
use Rattle.lp_form.specs.Templates.{steps_of}
use Rattle.lp_tree.specs.declared.tree.Program.{Program}
use Rattle.lp_write.specs.Lines.{blanks}
use Rattle.lp_program.specs.OwnLines.{hole}
use Rattle.lp_program.specs.Trees.{Content, Forest, whole}
use Rattle.lp_program.specs.Trees.Forest.{bare, tree}
use Rattle.lp_reading_laws.specs.Printing.TemplateTests.{has_code}

abbrev pub code_read : Bool → List ℕ → List ℕ
code_read whitespace code = if bytes_eq code (codes "()") then [] else blanks whitespace 4 ++ code

abbrev pub content_read : Bool → Content → Content
content_read whitespace c = if has_code (steps_of c.part) then record c { holes = code_read whitespace (hole c 0) ∷ [] } else c

abbrev pub forest_read : Bool → Forest → Forest
forest_read whitespace bare = bare
forest_read whitespace (tree c below after) = tree (content_read whitespace c) (forest_read whitespace below) (forest_read whitespace after)

-- a program as it is read
pub record IsRead (whitespace : Bool) (program read : Program) : Type 0 where
  pub prefix : read.prefix ≡ program.prefix
  pub trees : whole read.entries.items ≡ forest_read whitespace (whole program.entries.items)
