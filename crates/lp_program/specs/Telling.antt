-- What a step itself tells of its part: a hole is told by the first line that has it, and no line, text or table is read but in one way.
use Rattle.std.specs.Prelude.{◌≡◌, ℕ, zero, suc, ◌≤◌, ℤ, Bool, true, false, List, [], ◌∷◌, length, Option, Some, None, Result, Ok, Err}
use Rattle.std.specs.Str.{IsUtf8}
use Rattle.lp_form.specs.Templates.{Piece, holes_of}
use Rattle.lp_form.specs.Templates as template
use Rattle.lp_form.specs.declared.part.Part.{Part}
use Rattle.lp_form.specs.declared.template.Kind.{Kind}
use Rattle.lp_form.specs.declared.template.Step.{Step}
use Rattle.lp_form.specs.declared.template.Step.TheVariants as step
use Rattle.lp_spelling.specs.Cursors.{left}
use Rattle.lp_spelling.specs.declared.cursor.Cursor.{Cursor}
use Rattle.lp_spelling.specs.LineReading.{line_at, AllFill}
use Rattle.lp_spelling.specs.TableReading.{entries}
use Rattle.lp_program.specs.CodeReading.{IsUse, IsCode}
use Rattle.lp_program.specs.Nearby.{next_number, EachLike, EachTaken}
use Rattle.lp_program.specs.Reads.{TakesLine}
use Rattle.lp_program.specs.declared.read.growing.Growing.{Growing}
use Rattle.lp_program.specs.declared.read.reader.Reader.{Reader}

-- what is told of a part so far: its holes, and the entries of its table where that was read
pub record Told : Type 0 where
  pub holes : List (List ℕ)
  pub numbers : List ℤ
  pub tabled : Bool

-- nothing is told
abbrev pub untold : Told
untold = record { holes = []; numbers = []; tabled = false }

-- what the reader keeps of a part
abbrev pub told : Growing → Told
told g = record { holes = g.holes.items; numbers = g.numbers.items; tabled = g.tabled }

-- the next line that counts is read by the pieces, and what is new fills its holes
pub record TellsLine (prefix : List ℕ) (kinds : List Kind) (pieces : List Piece) (old new : Told) (text rest : List ℕ) : Type 0 where
  pub line : List ℕ
  pub takes : TakesLine line text rest
  pub reads : line_at prefix kinds pieces old.holes line ≡ Some new.holes
  pub fills : AllFill prefix kinds (length old.holes) new.holes
  pub others : new ≡ record old { holes = new.holes }

-- so many lines of one spelling
abbrev pub TellsLines : ℕ → List ℕ → List Kind → List Piece → Told → Told → List ℕ → List ℕ → Type 0
TellsLines zero prefix kinds pieces old new text rest = (new ≡ old) × (rest ≡ text)
TellsLines (suc n) prefix kinds pieces old new text rest =
    (mid : Told) × (behind : List ℕ) × TellsLine prefix kinds pieces old mid text behind × TellsLines n prefix kinds pieces mid new behind rest

-- a part whose lines have no hole has one text, a use or user code, and is told nothing else; behind it a character begins
pub record TellsText (p : Part) (IsText : List ℕ → List ℕ → Type 0) (old new : Told) (rest : List ℕ) : Type 0 where
  pub bare : length (holes_of p) ≡ 0
  pub first : length old.holes ≡ 0
  pub text : List ℕ
  pub is_text : IsText text rest
  pub behind : IsUtf8 rest
  pub new_is : new ≡ record old { holes = text ∷ [] }

-- the one table of a part
pub record TellsTable (old new : Told) (text rest : List ℕ) : Type 0 where
  pub first : old.tabled ≡ false
  pub reads : entries text ≡ Some (new.numbers, rest)
  pub new_is : new ≡ record old { numbers = new.numbers; tabled = true }

-- what a step itself tells and takes off a text, where so many trees stand below its part so far
abbrev pub TellsOwn : List ℕ → Part → ℕ → List Piece → Step → Told → Told → List ℕ → List ℕ → Type 0
TellsOwn prefix p count pieces (step.Line blanks) old new text rest = TellsLine prefix (holes_of p) pieces old new text rest
TellsOwn prefix p count pieces (step.Each blanks) old new text rest = TellsLines count prefix (holes_of p) pieces old new text rest
TellsOwn prefix p count pieces step.Use old new text rest = TellsText p (IsUse text) old new rest
TellsOwn prefix p count pieces step.Code old new text rest = TellsText p (IsCode text) old new rest
TellsOwn prefix p count pieces step.Entries old new text rest = TellsTable old new text rest
TellsOwn prefix p count pieces _ old new text rest = (new ≡ old) × (rest ≡ text)

-- nothing is told so
abbrev pub NotTold : (Told → List ℕ → Type 0) → Type 0
NotTold Tells = (new : Told) (rest : List ℕ) → Tells new rest → ⊥

-- an answer, the place behind what was taken, or none: what is told and left, or that nothing is told so
abbrev pub AnswersPlace : (Told → List ℕ → Type 0) → Growing → Option Cursor → Type 0
AnswersPlace Tells new (Some next) = Tells (told new) (left next)
AnswersPlace Tells new None = NotTold Tells

-- an answer on each text that is like what is left at a cursor: what is told, up to the place behind it, or that nothing is told so
abbrev pub AnswersEach : ℕ → Cursor → (List ℕ → Told → List ℕ → Type 0) → Bool → Told → Cursor → Type 0
AnswersEach n c Tells true new next = EachTaken n c next (λ text rest. Tells text new rest)
AnswersEach n c Tells false new next = EachLike n c (λ text. NotTold (Tells text))

-- the same, where the next lines that count were looked at, both in front and behind what was taken; or a line that doesn't fit
abbrev pub AnswersUpTo : ℕ → Cursor → (List ℕ → Told → List ℕ → Type 0) → Growing → Result Cursor ℕ → Type 0
AnswersUpTo n c Tells new (Ok next) = next_number next ≤ n → AnswersEach n c Tells true (told new) next
AnswersUpTo n c Tells new (Err line) = line ≤ n → AnswersEach n c Tells false (told new) c

abbrev pub AnswersOwn : Cursor → (List ℕ → Told → List ℕ → Type 0) → Growing → Result Cursor ℕ → Type 0
AnswersOwn c Tells new r = (n : ℕ) → next_number c ≤ n → AnswersUpTo n c Tells new r

-- an answer on lines, where the next line that counts was looked at behind those that were taken
abbrev pub AnswersLines : Cursor → (List ℕ → Told → List ℕ → Type 0) → Bool → Growing → Cursor → Type 0
AnswersLines c Tells all new next = (n : ℕ) → next_number next ≤ n → AnswersEach n c Tells all (told new) next

-- what a step of a part itself tells, whose template line is this
abbrev pub StepTells : List ℕ → Growing → ℕ → template.Line → List ℕ → Told → List ℕ → Type 0
StepTells prefix old count s text new rest = TellsOwn prefix old.part count s.1 s.0 (told old) new text rest

-- an answer on a step itself, of a reader that went on from one place to another
abbrev pub OwnTold : List ℕ → Growing → ℕ → template.Line → Reader → Bool → Growing → Reader → Type 0
OwnTold prefix old count s a b new c = (n : ℕ) → c.looked ≤ n → AnswersEach n a.cursor (StepTells prefix old count s) b (told new) c.cursor
