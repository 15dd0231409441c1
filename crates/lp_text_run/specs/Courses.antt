-- The course of a run: what it did and how it ended.
use Rattle.std.specs.Prelude.{◌≡◌, ℕ, List, [], map, Option, Some, None}
use Rattle.lp_core.specs.Store.{call_of}
use Rattle.lp_driver.specs.Values.{Text}
use Rattle.lp_repr.specs.declared.values.Event.{Event}
use Rattle.lp_repr.specs.declared.values.Outcome.{Outcome}
use Rattle.lp_repr.specs.declared.values.RunItem.{RunItem}
use Rattle.lp_run.specs.ProgramRun.{Finish, Stuck}
use Rattle.lp_run.specs.RunTold.{RunsProgram, outcome_finish}
use Rattle.lp_tree.specs.declared.tree.Program.{Program}

-- the calls of user code, the outcome, none where the run is stuck, and the steps
pub record Course : Type 0 where
  pub events : List Event
  pub outcome : Option Outcome
  pub steps : ℕ

-- a run ended so; of one that is stuck no calls are told
abbrev pub EndsSo : Option Outcome → List Event → ℕ → Finish → Type 0
EndsSo None events steps finish = (events ≡ []) × (finish ≡ Stuck steps)
EndsSo (Some outcome) events steps finish = finish ≡ outcome_finish outcome (map call_of events) steps

-- the course of the run of a program from a public name, on these items, with these values of its
-- parameters, these calls failing, and at most so many steps
abbrev pub IsCourse : Program → Text → List RunItem → List Text → List ℕ → ℕ → Course → Type 0
IsCourse program start items params failing budget course =
    (finish : Finish) × RunsProgram program start items params failing budget finish × EndsSo course.outcome course.events course.steps finish
