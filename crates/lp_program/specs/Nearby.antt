-- Texts that share their first lines with the text of a reader: what is left of them is read as what is left of the text, up to the last line that was looked at.
use Rattle.std.specs.Prelude.{◌≡◌, ℕ, ◌+◌, ◌^◌, ◌<◌, ◌≤◌, List, ◌++◌, length, take}
use Rattle.std.specs.Str.{IsUtf8}
use Rattle.lp_spelling.specs.Counting.{feeds}
use Rattle.lp_spelling.specs.Cursors.{left, IsTaken}
use Rattle.lp_spelling.specs.LineNumbers.{number_at}
use Rattle.lp_local.specs.Agreeing.{Agree}
use Rattle.lp_spelling.specs.declared.cursor.Cursor.{Cursor}

-- the number of the next line that counts; at the end of the text, one past that of the last line
abbrev pub next_number : Cursor → ℕ
next_number c = number_at c.start c.text.now

-- a text that stands in place of what is left at a cursor: the whole text, whose bytes and lines can be counted, keeps its first n lines
pub record Like (n : ℕ) (c : Cursor) (other : List ℕ) : Type 0 where
  pub is_text : IsUtf8 other
  pub whole : IsUtf8 c.text.now
  pub sized : length c.text.now < 2 ^ 64
  pub counted : feeds c.text.now + 1 < 2 ^ 64
  pub same : Agree n (take c.raw c.text.now ++ other) c.text.now

-- what holds of each text that is like what is left at a cursor
abbrev pub EachLike : ℕ → Cursor → (List ℕ → Type 0) → Type 0
EachLike n c Holds = (text : List ℕ) → Like n c text → Holds text

-- the same up to each line from this one on
abbrev pub OfLike : ℕ → Cursor → (List ℕ → Type 0) → Type 0
OfLike line c Holds = (n : ℕ) → line ≤ n → EachLike n c Holds

-- from one cursor to another as much is taken off another text, and its rest is like what is left there
pub record Moves (n : ℕ) (old new : Cursor) (text rest : List ℕ) : Type 0 where
  pub like : Like n new rest
  pub taken : IsTaken old new
  pub size : length text + length (left new) ≡ length rest + length (left old)

-- what is taken so off each text that is like what is left
abbrev pub EachTaken : ℕ → Cursor → Cursor → (List ℕ → List ℕ → Type 0) → Type 0
EachTaken n old new Takes = (text : List ℕ) → Like n old text → (rest : List ℕ) × Takes text rest × Moves n old new text rest

-- the same up to each line from this one on
abbrev pub OfTaken : ℕ → Cursor → Cursor → (List ℕ → List ℕ → Type 0) → Type 0
OfTaken line old new Takes = (n : ℕ) → line ≤ n → EachTaken n old new Takes
