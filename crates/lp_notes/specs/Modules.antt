-- The states that modules are made of.
use Rattle.std.specs.Prelude.{ℕ, List}
use Rattle.lp_repr.specs.declared.lr1.Lr1State.{Lr1State}
use Rattle.lp_notes.specs.Notes.{states_of}
use Rattle.lp_notes.specs.declared.notes.Modules.{Modules}
use Rattle.lp_notes.specs.declared.notes.Modules.TheVariants.{One, Each}

-- those of the last of so many modules
abbrev pub states_by : Modules → ℕ → List Lr1State
states_by (One states) modules = states.now
states_by (Each lists) modules = states_of lists.now modules
