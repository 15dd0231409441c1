-- What is taken off a text at a cursor.
use Rattle.std.specs.Prelude.{◌≡◌, ℕ, true, List, ◌⊎◌, drop, Option, Some, None}
use Rattle.std.specs.Str.{IsUtf8, IsCharBoundary, chars}
use Rattle.lp_tok.specs.declared.tok.ErrorCode.TheVariants.{ExpectedStringLiteral}
use Rattle.lp_tok.specs.Cut.{StopsAt, BreaksAt, EndsCut}
use Rattle.lp_spelling.specs.Cursors.{left, IsTaken}
use Rattle.lp_spelling.specs.LineNumbers.{number_at, past_last}
use Rattle.lp_spelling.specs.TableReading.{IsBroken, entries}
use Rattle.lp_spelling.specs.declared.cursor.Cursor.{Cursor}
use Rattle.lp_program.specs.declared.read.taking.Taken.{Taken}
use Rattle.lp_program.specs.declared.read.taking.TakenTable.{TakenTable}
use Rattle.lp_program.specs.declared.read.taking.TakenTable.TheVariants as found

-- what the code answers of a table at a cursor: the table, or the place at which it is broken
abbrev pub IsTakenTable : Cursor → TakenTable → Type 0
IsTakenTable old (found.Whole numbers new) = IsTaken old new × (entries (left old) ≡ Some (numbers.items, left new))
IsTakenTable old (found.Broken place) = (entries (left old) ≡ None) × IsBroken true (left old) (drop place old.text.now)

-- what the code answers of a text of its own at a cursor: it and what is left, or that none is there behind which a character begins
abbrev pub IsTakenText : (List ℕ → List ℕ → Type 0) → Option Taken → Type 0
IsTakenText IsText None = (text rest : List ℕ) → IsUtf8 rest → IsText text rest → ⊥
IsTakenText IsText (Some taken) = IsText taken.text.now (left taken.next) × IsUtf8 (left taken.next)

-- in a text, the cut from the byte `from` breaks at the byte n, where `r#` begins neither a raw string nor a word: no text behind it mends that
pub record BreaksCut (text : List ℕ) (from n : ℕ) : Type 0 where
  pub breaks : BreaksAt (chars (drop from text)) ExpectedStringLiteral (chars (drop n text))
  pub boundary : IsCharBoundary text n

-- a cut neither stops nor breaks in that way
abbrev pub GoesOn : List ℕ → Type 0
GoesOn cs = (rest : List ℕ) → (StopsAt cs rest → ⊥) × (BreaksAt cs ExpectedStringLiteral rest → ⊥)

-- the line at which the cut from a place stops, or breaks in that way; else one past the last line
abbrev pub IsCutLine : List ℕ → ℕ → ℕ → Type 0
IsCutLine text from line =
    ((end : ℕ) × EndsCut text from end × (line ≡ number_at end text))
    ⊎ ((place : ℕ) × BreaksCut text from place × (line ≡ number_at place text))
    ⊎ ((IsCharBoundary text from → GoesOn (chars (drop from text))) × (line ≡ past_last text))
