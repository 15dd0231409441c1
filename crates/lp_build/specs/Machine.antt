-- The struct that the driver asks.
use Rattle.std.specs.Prelude.{ℕ, ◌==◌, ◌||◌, List, [], ◌∷◌, ◌++◌, codes, decimal, Option, Some, None, if◌then◌else◌}
use Rattle.lp_form.specs.declared.part.Part.TheVariants as part
use Rattle.lp_tree.specs.ProgramTree.{Item, Note, leaf}
use Rattle.lp_tree.specs.declared.tree.Reduced.{Reduced}
use Rattle.lp_build.specs.Built.{row, with_line}
use Rattle.lp_build.specs.declared.machine.Field.{Field}
use Rattle.lp_build.specs.declared.machine.SimulateArm.{SimulateArm}

abbrev pub field_row : Field → Item
field_row f = row part.FieldRow (f.name ∷ f.ty ∷ [])

-- the number of the last of so many terminals, as it is printed
abbrev pub last_terminal : ℕ → List ℕ
last_terminal terminals = if (terminals == 0) || (terminals == 1) then decimal 0 else decimal terminals ++ codes " - 1"

-- the two methods on error recovery
abbrev pub recovery_lines : Option (List ℕ) → List Item
recovery_lines None = leaf part.RecoveryOff []
recovery_lines (Some variant) = leaf part.RecoveryOn (variant ∷ [])

-- what a reduction would do; the start's reduces nothing
abbrev pub simulated : ℕ → Option Reduced → Item
simulated production None = row part.SimulateAccept (decimal production ∷ [])
simulated production (Some r) = row part.SimulateArm (decimal production ∷ decimal r.pop ∷ decimal r.nonterminal ∷ [])

abbrev pub simulate_row : SimulateArm → Item
simulate_row a = simulated a.production a.reduced

-- and its note
abbrev pub simulate_note : SimulateArm → List Note
simulate_note a = with_line [] a.note
