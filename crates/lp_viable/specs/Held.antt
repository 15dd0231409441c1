-- What a program can hold: each of its lists has fewer than 2^63 items, since a vector has.
use Rattle.std.specs.Prelude.{ℕ, ◌+◌, ◌^◌, ◌<◌, length}
use Rattle.std.specs.List.{All}
use Rattle.lp_tree.specs.ProgramTree.{Note}
use Rattle.lp_program.specs.Trees.{Content, Forest}
use Rattle.lp_program.specs.Trees.Forest.{bare, tree}

-- a length that a vector can have
abbrev pub IsShort : ℕ → Type 0
IsShort n = n < 2 ^ 63

-- the comments of a note
abbrev pub NoteHeld : Note → Type 0
NoteHeld n = IsShort (length n.lines) × IsShort (length n.comments)

-- what a part holds, each list of it
pub record ContentHeld (c : Content) : Type 0 where
  pub holes : IsShort (length c.holes)
  pub numbers : IsShort (length c.numbers)
  pub notes : IsShort (length c.notes)
  pub each : All NoteHeld c.notes

-- what the parts of trees hold
unfoldable pub PartsHeld : Forest → Type 0
PartsHeld bare = Unit {0}
PartsHeld (tree c below after) = ContentHeld c × PartsHeld below × PartsHeld after

-- how many parts trees have in all
unfoldable pub part_count : Forest → ℕ
part_count bare = 0
part_count (tree c below after) = 1 + (part_count below + part_count after)

-- trees that a program can hold
abbrev pub IsHeld : Forest → Type 0
IsHeld f = PartsHeld f × IsShort (part_count f)
