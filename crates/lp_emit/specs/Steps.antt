-- What single steps of the checks refuse.
use Rattle.std.specs.Prelude.{◌≡◌, ℕ, List}
use Rattle.lp_repr.specs.declared.lr1.Lr1State.{Lr1State}
use Rattle.lp_repr.specs.declared.lr1.StartStates.{StartStates}
use Rattle.lp_repr.specs.declared.repr.Grammar.{Grammar}
use Rattle.lp_tables.specs.Refusals.{RefusesTables}
use Rattle.lp_tables.specs.declared.check.TableFault.TheVariants.{Rule}
use Rattle.lp_emit.specs.Lists.{IsTableFailure}
use Rattle.lp_emit.specs.declared.errors.EmitError.{EmitError}
use Rattle.lp_emit.specs.declared.errors.EmitError.TheVariants.{BadTables, Memory}

-- the tables of a start
abbrev pub RefusesStates : Grammar → ℕ → List Lr1State → EmitError → Type 0
RefusesStates g start states (BadTables named state rule) = (named ≡ start) × RefusesTables g start states (Rule rule state)
RefusesStates g start states Memory = Unit {0}
RefusesStates g start states error = ⊥

-- the lists of states
abbrev pub RefusesLists : Grammar → List StartStates → EmitError → Type 0
RefusesLists g states (BadTables start state rule) = IsTableFailure g states start state rule
RefusesLists g states Memory = Unit {0}
RefusesLists g states error = ⊥
