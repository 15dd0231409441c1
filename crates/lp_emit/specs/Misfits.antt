-- Programs whose texts meet their rules, each by itself, but may not stand where they are put together.
use Rattle.std.specs.Prelude.{◌≡◌, ℕ, List, length}
use Rattle.lp_repr.specs.declared.lr1.StartStates.{StartStates}
use Rattle.lp_repr.specs.declared.repr.Grammar.{Grammar}
use Rattle.lp_texts.specs.declared.faults.TextKind.TheVariants.{Code}
use Rattle.lp_texts.specs.declared.faults.TextPlace.{TextPlace}
use Rattle.lp_tree.specs.declared.tree.Program.{Program}
use Rattle.lp_assembly.specs.Built.{IsBuilt}
use Rattle.lp_fitting.specs.Fitting.{IsFitting}
use Rattle.lp_emit.specs.declared.errors.EmitError.{EmitError}
use Rattle.lp_emit.specs.declared.errors.EmitError.TheVariants.{BadText, Memory}

-- the place behind all texts
abbrev pub place_behind : Grammar → TextPlace
place_behind g = record { kind = Code; number = length g.action_fn_defns }

-- the program that is built has a text that may not stand where it does; and the place that is told of it
abbrev pub HasMisfit : Grammar → List StartStates → TextPlace → ℕ → Type 0
HasMisfit g states place byte = (program : Program) × IsBuilt g states program × (¬ IsFitting program) × (place ≡ place_behind g) × (byte ≡ 0)

-- or all may stand where they do
abbrev pub HasFit : Grammar → List StartStates → Type 0
HasFit g states = (program : Program) × IsBuilt g states program × IsFitting program

-- what is refused of a program
abbrev pub RefusesProgram : Grammar → Program → EmitError → Type 0
RefusesProgram g program (BadText place byte) = (¬ IsFitting program) × (place ≡ place_behind g) × (byte ≡ 0)
RefusesProgram g program Memory = Unit {0}
RefusesProgram g program error = ⊥
