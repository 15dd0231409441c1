-- The trees of a list of parts, and what each part holds.
use Rattle.std.specs.Prelude.{ℕ, zero, suc, ◌+◌, ℤ, List, [], ◌∷◌, length, take, drop}
use Rattle.lp_form.specs.declared.part.Part.{Part}
use Rattle.lp_tree.specs.declared.tree.Entry.{Entry}
use Rattle.lp_tree.specs.ProgramTree.{Note, entry_notes}

-- what a part holds: the texts of its holes, the entries of its table, and its notes
pub record Content : Type 0 where
  pub part : Part
  pub holes : List (List ℕ)
  pub numbers : List ℤ
  pub notes : List Note

abbrev pub content : Entry → Content
content e = record { part = e.part; holes = e.holes.items; numbers = e.numbers.items; notes = entry_notes e }

-- trees side by side: what the first one's part holds, the trees below it, and those after it
pub data Forest : Type 0 where
  bare : Forest
  tree : Content → Forest → Forest → Forest

-- the number of trees side by side
abbrev pub tree_count : Forest → ℕ
tree_count bare = 0
tree_count (tree c below after) = 1 + tree_count after

-- the trees of a list of at most n parts
unfoldable pub forest_within : ℕ → List Entry → Forest
forest_within zero es = bare
forest_within (suc n) [] = bare
forest_within (suc n) (e ∷ es) =
    tree (content e) (forest_within n (take e.below es)) (forest_within n (drop e.below es))

-- the trees of a list of parts: below each stand as many of those after it as it says, if there are so many
unfoldable pub forest : List Entry → Forest
forest es = forest_within (length es) es

-- the tree of a whole list: its first part, with all others below it
abbrev pub whole : List Entry → Forest
whole [] = bare
whole (e ∷ es) = tree (content e) (forest es) bare
