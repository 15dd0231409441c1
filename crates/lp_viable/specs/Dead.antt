-- The line that a refusal names is dead: no text with the same lines up to it is read as a program, whatever prefix that text shows.
use Rattle.std.specs.Prelude.{ℕ, List}
use Rattle.std.specs.Str.{IsUtf8}
use Rattle.lp_local.specs.Agreeing.{Agree}
use Rattle.lp_tree.specs.declared.tree.Program.{Program}
use Rattle.lp_program.specs.declared.read.reader.ReadFault.TheVariants as fault
use Rattle.lp_program.specs.Choosing.{IsChosen, HasNumbers, IsRefused}
use Rattle.lp_reading_laws.specs.Choosing.Laws.{ReadsTold}

-- no program is chosen in such a text
abbrev pub RefusedIsDead : Type 0
RefusedIsDead = (text : List ℕ) (line : ℕ) → IsUtf8 text → HasNumbers text → IsRefused text (fault.NoForm line) →
    (other : List ℕ) → IsUtf8 other → Agree line other text → (program : Program) → IsChosen other program → ⊥

-- and it reads as none whose holes are parted and whose bodies of actions are told
abbrev pub RefusedIsUntold : Type 0
RefusedIsUntold = (text : List ℕ) (line : ℕ) → IsUtf8 text → HasNumbers text → IsRefused text (fault.NoForm line) →
    (other : List ℕ) → IsUtf8 other → Agree line other text → (program : Program) → ReadsTold other program → ⊥
