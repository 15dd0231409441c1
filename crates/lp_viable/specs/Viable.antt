-- Texts that read as the tree of a program, and those that can be completed to one.
use Rattle.std.specs.Prelude.{◌≡◌, ℕ, true, List, [], ◌++◌}
use Rattle.std.specs.Str.{IsUtf8}
use Rattle.lp_form.specs.declared.part.Part.TheVariants as part
use Rattle.lp_spelling.specs.Counting.{settled}
use Rattle.lp_program.specs.Reads.{is_prefix, Reads}
use Rattle.lp_program.specs.Reads.Task.{trees}
use Rattle.lp_program.specs.Trees.{Content, Forest}
use Rattle.lp_program.specs.Trees.Forest.{bare, tree}

-- a text reads as the tree of a program, under a prefix
pub record ReadsAsTree (text prefix : List ℕ) (c : Content) (below : Forest) : Type 0 where
  pub rest : List ℕ
  pub prefix_fits : is_prefix prefix ≡ true
  pub first : c.part ≡ part.Program
  pub reads : Reads prefix (trees (tree c below bare)) text rest
  pub nothing_left : settled rest ≡ []

-- with some text behind it, a text reads as the tree of a program
pub record IsViable (text : List ℕ) : Type 0 where
  pub more : List ℕ
  pub utf8 : IsUtf8 more
  pub prefix : List ℕ
  pub c : Content
  pub below : Forest
  pub reads : ReadsAsTree (text ++ more) prefix c below
