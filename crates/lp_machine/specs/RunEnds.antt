-- How runs end, and the calls that events tell of.
use Rattle.std.specs.Prelude.{◌≡◌, List, map, Option, Some, None, Result, Ok, Err}
use Rattle.std.specs.Option.{option_map}
use Rattle.lp_repr.specs.declared.values.Loc.{Loc}
use Rattle.lp_repr.specs.declared.values.Term.{Term}
use Rattle.lp_repr.specs.declared.values.Event.{Event}
use Rattle.lp_repr.specs.declared.values.Outcome.{Outcome}
use Rattle.lp_repr.specs.declared.values.Outcome.TheVariants as outcome
use Rattle.lp_driver.specs.Values.{Spanned, Value, Failure, value_of, Ending, Gives, Fails}
use Rattle.lp_machine.specs.declared.calls.Call.{Call}
use Rattle.lp_machine.specs.declared.config.Left.{Left}
use Rattle.lp_machine.specs.declared.config.Left.TheVariants.{Pulls, Shifts, Calls, Reduces, Tries, Simulates, Looks, Checks, Drops, Over}

-- how a run ended, if it did
abbrev pub ending_of : Result Value Failure → Ending
ending_of (Ok value) = Gives value
ending_of (Err failure) = Fails failure

abbrev pub ended : Left → Option Ending
ended (Over result) = Some (ending_of result)
ended Pulls = None
ended (Shifts to) = None
ended (Calls rule calls result) = None
ended (Reduces rule value) = None
ended (Tries listing i) = None
ended (Simulates listing i stack) = None
ended (Looks places) = None
ended (Checks place to stack) = None
ended Drops = None

-- what an outcome says of that
abbrev pub outcome_ending : Outcome → Option Ending
outcome_ending (outcome.Value term) = Some (Gives (value_of term))
outcome_ending (outcome.Error failure) = Some (Fails failure)
outcome_ending outcome.Spent = None

-- what a step answers: nothing where a move is left, and never that moves were spent
abbrev pub TellsEnd : Option Outcome → Option Ending → Type 0
TellsEnd answer ending = option_map outcome_ending answer ≡ option_map Some ending

-- a call of user code, by the event that tells of it
abbrev pub spanned_value : Loc × Term × Loc → Spanned Value
spanned_value x = (x.0, value_of x.1, x.2)

abbrev pub call_of : Event → Call
call_of e = record { number = e.number; code = e.code; params = e.params; args = map spanned_value e.args; place = e.place }
