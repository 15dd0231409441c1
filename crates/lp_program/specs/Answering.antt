-- What a call leaves that reads trees: those that it added are chosen so, or no trees are, whatever stands behind the lines that were looked at.
use Rattle.std.specs.Prelude.{◌≡◌, ℕ, ◌+◌, ◌≤◌, Bool, true, false, List, ◌++◌, drop, map}
use Rattle.lp_tree.specs.declared.tree.Entry.{Entry}
use Rattle.lp_program.specs.declared.read.reader.Reader.{Reader}
use Rattle.lp_program.specs.Adding.{Holds}
use Rattle.lp_program.specs.Choosing.{Reading, IsUnread}
use Rattle.lp_program.specs.Nearby.{OfLike, OfTaken}
use Rattle.lp_program.specs.Telling.{Told}
use Rattle.lp_program.specs.Trees.{Content, content, Forest}

-- what the parts behind a place hold
abbrev pub held : ℕ → Reader → List Content
held at r = map content (drop (at + 1) r.entries.items)

-- parts were added, whose trees are read so
pub record AddsRead (Read : Reading) (old new : Reader) : Type 0 where
  pub forest : Forest
  pub more : List Entry
  pub entries_are : new.entries.items ≡ old.entries.items ++ more
  pub holds : Holds more forest
  pub looked : old.looked ≤ new.looked
  pub reads : OfTaken new.looked old.cursor new.cursor (Read forest)

-- no trees are read so
pub record NoneRead (Read : Reading) (old new : Reader) : Type 0 where
  pub looked : old.looked ≤ new.looked
  pub unread : OfLike new.looked old.cursor (IsUnread Read)

-- an answer on trees
abbrev pub AnswersTrees : Reading → Reader → Bool → Reader → Type 0
AnswersTrees Read old true new = AddsRead Read old new
AnswersTrees Read old false new = NoneRead Read old new

-- trees of a part, of which anything is told with them
abbrev pub SomeTold : (Told → Reading) → Reading
SomeTold Read f text rest = (told : Told) × Read told f text rest

-- an answer on trees of a part, of which this is told with them
abbrev pub AnswersSteps : (Told → Reading) → Told → Reader → Bool → Reader → Type 0
AnswersSteps Read told old true new = AddsRead (Read told) old new
AnswersSteps Read told old false new = NoneRead (SomeTold Read) old new
