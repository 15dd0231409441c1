-- What the answer of a run tells.
use Rattle.std.specs.Prelude.{◌≡◌, ℕ, ◌-◌, ◌<◌, ◌^◌, All, Bool, true, false, List, map, length, Option, Some, None, Result, Ok, Err, IfSome, ◌==◌}
use Rattle.lp_repr.specs.declared.values.RunItem.{RunItem}
use Rattle.lp_repr.specs.declared.values.Outcome.{Outcome}
use Rattle.lp_repr.specs.declared.values.Outcome.TheVariants as outcome
use Rattle.lp_driver.specs.declared.answers.RunError.{RunError}
use Rattle.lp_driver.specs.declared.answers.RunError.TheVariants as error
use Rattle.lp_driver.specs.declared.answers.Stop.{Stop}
use Rattle.lp_driver.specs.declared.answers.Stop.TheVariants as stop
use Rattle.lp_driver.specs.Values.{Text, Gives, Fails, value_of}
use Rattle.lp_core.specs.declared.expr.Table.{Table}
use Rattle.lp_core.specs.declared.run.Ending.TheVariants as over
use Rattle.lp_core.specs.declared.run.Ending as call
use Rattle.lp_core.specs.Store.{UserCall, call_of}
use Rattle.lp_tree.specs.declared.tree.Program.{Program}
use Rattle.lp_view.specs.PartLists.{Form}
use Rattle.lp_maker.specs.Making.{entries_of}
use Rattle.lp_turns.specs.Readings.{result_of}
use Rattle.lp_run.specs.declared.run.Run.{Run}
use Rattle.lp_run.specs.declared.run.Finished.{Finished}
use Rattle.lp_run.specs.declared.run.Finished.TheVariants as inner
use Rattle.lp_run.specs.Named.{named}
use Rattle.lp_run.specs.Module.{Module}
use Rattle.lp_run.specs.Entered.{module_in, parameter_count}
use Rattle.lp_run.specs.ProgramRun.{Finish, NoStart, ParameterCount, Ended, Spent, Stuck, value_finish, module_run}

-- what a run tells of how it ended
abbrev pub outcome_finish : Outcome → List UserCall → ℕ → Finish
outcome_finish (outcome.Value v) calls steps = Ended (Gives (value_of v)) calls steps
outcome_finish (outcome.Error e) calls steps = Ended (Fails e) calls steps
outcome_finish outcome.Spent calls steps = Spent calls steps

abbrev pub run_finish : Run → Finish
run_finish run = outcome_finish run.outcome (map call_of run.events) run.steps

abbrev pub finished : Finished → Finish
finished (inner.Ran run) = run_finish run
finished (inner.Stuck steps) = Stuck steps

abbrev pub result_finish : Result Run RunError → Option Finish
result_finish (Ok run) = Some (run_finish run)
result_finish (Err error.NoStart) = Some NoStart
result_finish (Err error.ParameterCount) = Some ParameterCount
result_finish (Err (error.Stuck steps)) = Some (Stuck steps)
result_finish (Err error.Memory) = None

-- a call answered this end, or found no memory
abbrev pub Tells : Finish → Result Run RunError → Type 0
Tells finish result = IfSome (result_finish result) (λ told. told ≡ finish)

-- what the end of a call tells, after these calls of user code and with so many steps left
abbrev pub told_finish : ℕ → call.Ending → List UserCall → ℕ → Finish
told_finish budget (over.Value v) calls left = value_finish budget (result_of v) calls left
told_finish budget over.Spent calls left = Spent calls budget
told_finish budget over.Stuck calls left = Stuck (budget - left)

-- what the driver's answer tells
abbrev pub drive_finish : ℕ → Result Outcome Stop → List UserCall → ℕ → Option Finish
drive_finish budget (Ok (outcome.Value v)) calls left = Some (Ended (Gives (value_of v)) calls (budget - left))
drive_finish budget (Ok (outcome.Error e)) calls left = Some (Ended (Fails e) calls (budget - left))
drive_finish budget (Ok outcome.Spent) calls left = Some (Spent calls budget)
drive_finish budget (Err stop.Spent) calls left = Some (Spent calls budget)
drive_finish budget (Err stop.Stuck) calls left = Some (Stuck (budget - left))
drive_finish budget (Err stop.Memory) calls left = None

-- the places of a table are numbers that a program has
abbrev pub IsCounted : Table → Type 0
IsCounted t = length t.entries.items < 2 ^ 64

-- a run of a module is one over tables that have its entries
abbrev pub RunsModule : Module → List RunItem → List Text → List ℕ → ℕ → Finish → Type 0
RunsModule m items params failing budget told =
    (tables : List Table) × (map entries_of tables ≡ m.tables) × All IsCounted tables × (told ≡ module_run m tables items params failing budget)

-- whether there are as many values as parameters
abbrev pub RunsCounted : Bool → Module → List RunItem → List Text → List ℕ → ℕ → Finish → Type 0
RunsCounted true m items params failing budget told = RunsModule m items params failing budget told
RunsCounted false m items params failing budget told = told ≡ ParameterCount

-- a run of the items that a name enters, if there are any
abbrev pub RunsItems : Program → Option Form → List RunItem → List Text → List ℕ → ℕ → Finish → Type 0
RunsItems program None items params failing budget told = told ≡ NoStart
RunsItems program (Some form) items params failing budget told =
    RunsCounted (parameter_count program form == length params) (module_in program form) items params failing budget told

-- a run of the parser of a public name
abbrev pub RunsProgram : Program → List ℕ → List RunItem → List Text → List ℕ → ℕ → Finish → Type 0
RunsProgram program start items params failing budget told = RunsItems program (named program start) items params failing budget told
