-- A part that is being read: what its steps add to it, and what it may become.
use Rattle.std.specs.Prelude.{◌≡◌, ℕ, ◌<◌, ◌≤◌, true, List, [], ◌++◌, length, get_or}
use Rattle.lp_form.specs.Templates.{holes_of}
use Rattle.lp_program.specs.declared.read.growing.Growing.{Growing}
use Rattle.lp_tree.specs.declared.tree.Entry.{Entry}
use Rattle.lp_program.specs.Trees.{Content}
use Rattle.lp_spelling.specs.Fillings.{Fills}
use Rattle.lp_spelling.specs.LineReading.{kind_of}

-- from one step to another: holes that are known stay, those that are added hold what they may, and a table that was read stays
pub record Grows (prefix : List ℕ) (old new : Growing) : Type 0 where
  pub part_is : new.part ≡ old.part
  pub more : List (List ℕ)
  pub holes_are : new.holes.items ≡ old.holes.items ++ more
  pub fills : (k : ℕ) → length old.holes.items ≤ k → k < length new.holes.items → k < length (holes_of old.part) → Fills prefix (kind_of (holes_of old.part) k) (get_or new.holes.items k [])
  pub tabled : old.tabled ≡ true → new.tabled ≡ true
  pub numbers : old.tabled ≡ true → new.numbers.items ≡ old.numbers.items

-- what a part may become: more holes may be told, and where its table is read it stays
pub record MayBecome (growing : Growing) (c : Content) : Type 0 where
  pub part_is : c.part ≡ growing.part
  pub more : List (List ℕ)
  pub holes_are : c.holes ≡ growing.holes.items ++ more
  pub numbers : growing.tabled ≡ true → c.numbers ≡ growing.numbers.items

-- a part with what its steps told, over so many parts
pub record IsFilled (old : Entry) (growing : Growing) (below : ℕ) (new : Entry) : Type 0 where
  pub part_is : new.part ≡ old.part
  pub holes_are : new.holes ≡ growing.holes
  pub numbers_are : new.numbers ≡ growing.numbers
  pub notes_are : new.notes ≡ old.notes
  pub below_is : new.below ≡ below
