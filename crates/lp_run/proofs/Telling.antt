-- What the end of a call, and what the driver's answer, tell of a run.
use Rattle.std.proofs.Common.{◌≡◌, ℕ, List, [], Option, Some, None, Result, Ok, Err, sym, ap, ◌∙◌, subst}
use Rattle.std.specs.Option.{unwrap_or}
use Rattle.lp_repr.specs.declared.values.Outcome.{Outcome}
use Rattle.lp_repr.specs.declared.values.Outcome.TheVariants as outcome
use Rattle.lp_driver.specs.declared.answers.Stop.{Stop}
use Rattle.lp_driver.specs.declared.answers.Stop.TheVariants as stop
use Rattle.lp_driver.specs.DriverState.{Next}
use Rattle.lp_driver.specs.Turns as turns
use Rattle.lp_core.specs.declared.run.Ending.{Ending}
use Rattle.lp_core.specs.declared.run.Ending.TheVariants as told
use Rattle.lp_core.specs.Val.{Val}
use Rattle.lp_core.specs.Store.{UserCall, Program}
use Rattle.lp_core.specs.Flow.{State, Flow}
use Rattle.lp_core.specs.Endings.{Ends}
use Rattle.lp_core.specs.Eval.{run_call}
use Rattle.lp_turns.specs.declared.runner.Runner.{Runner}
use Rattle.lp_turns.specs.DriverCall.{begin}
use Rattle.lp_run.specs.ProgramRun.{Finish, NoStart, parameters, call_finish, by_call, driver_finish}
use Rattle.lp_run.specs.RunTold.{told_finish, drive_finish}

tells : (budget : ℕ) (e : Ending) (st : State) (fl : Flow) → Ends e st fl → call_finish budget fl ≡ told_finish budget e st.calls st.left
tells budget (told.Value v) st fl h = ap (call_finish budget) h
tells budget told.Spent st fl h = ap (call_finish budget) h.0
tells budget told.Stuck st fl h = ap (call_finish budget) h

-- a call of `parse`
pub call_tells : (p : Program) (f params budget : ℕ) (vs : List Val) (before after : State) (e : Ending) (calls : List UserCall) → vs ≡ parameters params → before ≡ begin [] [] budget
    → Ends e after (run_call p f vs before) → calls ≡ after.calls → by_call p f params budget ≡ told_finish budget e calls after.left
call_tells p f params budget vs before after e calls args began ends made =
    ap (λ (l : List Val). call_finish budget (run_call p f l (begin [] [] budget))) (sym args) ∙ ap (λ (st : State). call_finish budget (run_call p f vs st)) (sym began)
    ∙ tells budget e after (run_call p f vs before) ends ∙ ap (λ (l : List UserCall). told_finish budget e l after.left) (sym made)

same_some : (a b : Finish) → Some a ≡ Some b → a ≡ b
same_some a b e = ap (λ (o : Option Finish). unwrap_or o NoStart) e

abbrev Missing : Option Finish → Type 0
Missing None = Unit {0}
Missing (Some f) = ⊥

-- the driver's answer
pub driver_tells : (budget : ℕ) (r : Result Outcome Stop) (d : Runner) (next : Next Val Runner) (f : Finish) → turns.Ended r d next → drive_finish budget r d.calls d.left ≡ Some f → f ≡ driver_finish budget next
driver_tells budget (Ok (outcome.Value v)) d next f h is = sym (ap (driver_finish budget) h ∙ same_some _ f is)
driver_tells budget (Ok (outcome.Error x)) d next f h is = sym (ap (driver_finish budget) h ∙ same_some _ f is)
driver_tells budget (Ok outcome.Spent) d next f h is = absurd h
driver_tells budget (Err stop.Spent) d next f h is = sym (ap (driver_finish budget) h ∙ same_some _ f is)
driver_tells budget (Err stop.Stuck) d next f h is = sym (ap (driver_finish budget) h ∙ same_some _ f is)
driver_tells budget (Err stop.Memory) d next f h is = absurd (subst Missing is tt)
