-- What a refusal tells, whole: the lines before the one that is named go on to a program, and with that line no text does.
use Rattle.std.specs.Prelude.{ℕ, ◌-◌, ◌≤◌, List}
use Rattle.lp_local.specs.Agreeing.{Agree, first_lines}
use Rattle.lp_program.specs.Choosing.{HasNumbers, IsChosen}
use Rattle.lp_program.specs.declared.read.reader.ReadFault.{ReadFault}
use Rattle.lp_program.specs.declared.read.reader.ReadFault.TheVariants as fault
use Rattle.lp_spelling.specs.LineNumbers.{past_last}
use Rattle.lp_tree.specs.declared.tree.Program.{Program}
use Rattle.std.specs.Str.{IsUtf8}
use Rattle.lp_reading_laws.specs.Choosing.Laws.{ReadsTold}
use Rattle.lp_viable.specs.Viable.{IsViable}

-- no text with the same lines up to this one is read as a program, whatever prefix it shows: none is chosen in it, and it
-- reads as none whose holes are parted and whose bodies of actions are told
abbrev pub IsDead : List ℕ → ℕ → Type 0
IsDead text line =
    (other : List ℕ) → IsUtf8 other → Agree line other text → (program : Program) → (IsChosen other program → ⊥) × (ReadsTold other program → ⊥)

-- the first line with which no text goes on to a program; one past the last where more is wanting
pub record IsMisfit (text : List ℕ) (line : ℕ) : Type 0 where
  pub within : line ≤ past_last text
  pub before : IsViable (first_lines (line - 1) text)
  pub dead : HasNumbers text → IsDead text line

-- why a text isn't read; but where memory is wanting
abbrev pub TellsMisfit : List ℕ → ReadFault → Type 0
TellsMisfit text (fault.NoForm line) = IsMisfit text line
TellsMisfit text fault.Memory = Unit {0}
