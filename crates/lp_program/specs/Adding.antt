-- What a reader adds: parts behind those that it has, whose trees take the front off what is left of its text.
use Rattle.std.specs.Prelude.{◌≡◌, ℕ, ◌+◌, ◌-◌, ◌<◌, ◌≤◌, Bool, true, false, List, [], ◌∷◌, ◌++◌, length, get_or, drop, set}
use Rattle.std.specs.Bool.{OnTrue}
use Rattle.lp_form.specs.Templates.{steps_of, holes_of}
use Rattle.lp_form.specs.Templates as template
use Rattle.lp_form.specs.declared.class.Class.{Class}
use Rattle.lp_form.specs.declared.part.Part.{Part}
use Rattle.lp_form.specs.declared.part.Part.TheVariants as part
use Rattle.lp_form.specs.declared.template.Step.{Step}
use Rattle.lp_spelling.specs.Counting.{settled}
use Rattle.lp_spelling.specs.Cursors.{left}
use Rattle.lp_spelling.specs.Fillings.{Fills}
use Rattle.lp_spelling.specs.LineReading.{kind_of}
use Rattle.lp_tree.specs.declared.tree.Entry.{Entry}
use Rattle.lp_program.specs.declared.read.growing.Growing.{Growing}
use Rattle.lp_program.specs.declared.read.reader.Reader.{Reader}
use Rattle.lp_program.specs.Growing.{Grows, MayBecome, IsFilled}
use Rattle.lp_program.specs.Printed.{is_member}
use Rattle.lp_program.specs.Telling.{told, untold}
use Rattle.lp_program.specs.Trees.{Content, Forest, forest, tree_count}
use Rattle.lp_program.specs.Reads.{graft, parts_in, may_have, Reads, TakesOwn}
use Rattle.lp_program.specs.Reads.Task.{trees, steps}

-- parts that have these trees, whatever follows them
abbrev pub Holds : List Entry → Forest → Type 0
Holds es f = (others : List Entry) → forest (es ++ others) ≡ graft f (forest others)

-- parts that were added behind others: their trees, which are read from one text to another
pub record Added (prefix : List ℕ) (old new : List Entry) (text rest : List ℕ) (f : Forest) : Type 0 where
  pub more : List Entry
  pub entries_are : new ≡ old ++ more
  pub holds : Holds more f
  pub reads : Reads prefix (trees f) text rest

-- a reader under the same prefix, with more parts, whether or not all of them were read
pub record Extends (old new : Reader) : Type 0 where
  pub prefix_is : new.prefix.now ≡ old.prefix.now
  pub more : List Entry
  pub entries_are : new.entries.items ≡ old.entries.items ++ more

-- a reader at the same place, with the same parts, whether or not it looked at more lines
pub record SamePlace (old new : Reader) : Type 0 where
  pub prefix_is : new.prefix.now ≡ old.prefix.now
  pub cursor_is : new.cursor ≡ old.cursor
  pub looked : old.looked ≤ new.looked
  pub entries_are : new.entries.items ≡ old.entries.items

-- the parts of trees side by side: one; those that a step may have; a part and one of a class
abbrev pub IsPart : Part → List Part → Type 0
IsPart p parts = parts ≡ p ∷ []

abbrev pub MayHave : Step → List Part → Type 0
MayHave s parts = may_have s parts ≡ true

abbrev pub IsPair : Part → Class → List Part → Type 0
IsPair p class parts = (q : Part) × (parts ≡ p ∷ q ∷ []) × (is_member class q ≡ true)

-- a reader that has read trees with such parts
pub record Adds (may : List Part → Type 0) (old new : Reader) : Type 0 where
  pub forest : Forest
  pub fits : may (parts_in forest)
  pub added : Added old.prefix.now old.entries.items new.entries.items (left old.cursor) (left new.cursor) forest

-- what a call leaves that reads such trees: at `true` they were read
pub record Brings (may : List Part → Type 0) (old : Reader) (read : Bool) (new : Reader) : Type 0 where
  pub extends : Extends old new
  pub adds : OnTrue read (Adds may old new)

-- what a call leaves that reads such trees, or else is where it was
abbrev pub Reread : (List Part → Type 0) → Reader → Bool → Reader → Type 0
Reread may old true new = Brings may old true new
Reread may old false new = SamePlace old new

-- how many trees stand behind a place
abbrev pub kids : ℕ → Reader → ℕ
kids at r = tree_count (forest (drop (at + 1) r.entries.items))

-- what a step itself took off a text, where so many trees stand below its part so far
pub record OwnTaken (prefix : List ℕ) (old new : Growing) (count : ℕ) (s : template.Line) (text rest : List ℕ) : Type 0 where
  pub grows : Grows prefix old new
  pub takes : (c : Content) → MayBecome new c → TakesOwn prefix c count s.1 s.0 text rest

-- what a step took: itself, and then the trees that it has
pub record StepAdds (at : ℕ) (s : template.Line) (g h : Growing) (old new : Reader) : Type 0 where
  pub own : List ℕ
  pub taken : OwnTaken old.prefix.now g h (kids at old) s (left old.cursor) own
  pub below : Forest
  pub fits : may_have s.0 (parts_in below) ≡ true
  pub added : Added old.prefix.now old.entries.items new.entries.items own (left new.cursor) below

pub record StepBrings (at : ℕ) (s : template.Line) (g h : Growing) (old : Reader) (read : Bool) (new : Reader) : Type 0 where
  pub extends : Extends old new
  pub adds : OnTrue read (StepAdds at s g h old new)

-- each hole that a part has told so far holds what it may
abbrev pub AllFilled : List ℕ → Growing → Part → Type 0
AllFilled prefix g p = (k : ℕ) → k < length g.holes.items → k < length (holes_of p) → Fills prefix (kind_of (holes_of p) k) (get_or g.holes.items k [])

-- all steps of a part read so over these trees, whatever it becomes
abbrev pub AllRead : List ℕ → Growing → Forest → List ℕ → List ℕ → Part → Type 0
AllRead prefix g below text rest p = (c : Content) → MayBecome g c → Reads prefix (steps c 0 (steps_of p) below) text rest

-- all steps of a part were taken, and these trees are below it
pub record StepsAdd (part : Part) (g : Growing) (old new : Reader) : Type 0 where
  pub part_is : g.part ≡ part
  pub more : List Entry
  pub below : Forest
  pub entries_are : new.entries.items ≡ old.entries.items ++ more
  pub holds : Holds more below
  pub fills : AllFilled old.prefix.now g part
  pub reads : AllRead old.prefix.now g below (left old.cursor) (left new.cursor) part

pub record StepsBring (part : Part) (g : Growing) (old : Reader) (read : Bool) (new : Reader) : Type 0 where
  pub extends : Extends old new
  pub adds : OnTrue read (StepsAdd part g old new)

-- a part was added of which nothing is read yet
pub record Opened (part : Part) (old new : Reader) (g : Growing) : Type 0 where
  pub prefix_is : new.prefix.now ≡ old.prefix.now
  pub cursor_is : new.cursor ≡ old.cursor
  pub looked_is : new.looked ≡ old.looked
  pub first : Entry
  pub first_is : first.part ≡ part
  pub notes_are : first.notes.items ≡ []
  pub entries_are : new.entries.items ≡ old.entries.items ++ first ∷ []
  pub part_is : g.part ≡ part
  pub none : told g ≡ untold

-- the part at a place is filled, over all parts behind it
pub record FilledAt (at : ℕ) (g : Growing) (old new : List Entry) : Type 0 where
  pub entry : Entry
  pub entries_are : new ≡ set old at entry
  pub filled : IsFilled (get_or old at entry) g (length old - (at + 1)) entry

-- a program was read, and nothing is left that counts
pub record WholeRead (old new : Reader) : Type 0 where
  pub prefix_is : new.prefix.now ≡ old.prefix.now
  pub rest : List ℕ
  pub nothing_left : settled rest ≡ []
  pub forest : Forest
  pub parts_are : parts_in forest ≡ part.Program ∷ []
  pub added : Added old.prefix.now old.entries.items new.entries.items (left old.cursor) rest forest
