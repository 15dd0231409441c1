-- The course of a run, by what the call answered.
use Rattle.std.proofs.Common.{◌≡◌, ℕ, List, [], Some, None, Err, IfSome, refl, subst}
use Rattle.lp_driver.specs.Values.{Text}
use Rattle.lp_driver.specs.declared.answers.RunError.{RunError}
use Rattle.lp_driver.specs.declared.answers.RunError.TheVariants as error
use Rattle.lp_repr.specs.declared.values.RunItem.{RunItem}
use Rattle.lp_run.specs.ProgramRun.{Stuck}
use Rattle.lp_run.specs.RunTold.{RunsProgram, result_finish, run_finish}
use Rattle.lp_run.specs.declared.run.Run.{Run}
use Rattle.lp_tree.specs.declared.tree.Program.{Program}
use Rattle.lp_text_run.specs.Courses.{Course, IsCourse}

-- of a run that ended
abbrev pub ended : Run → Course
ended run = record { events = run.events; outcome = Some run.outcome; steps = run.steps }

pub ended_course :
    (program : Program) (start : Text) (items : List RunItem) (params : List Text) (failing : List ℕ) (budget : ℕ) (run : Run) →
    RunsProgram program start items params failing budget (run_finish run) → IsCourse program start items params failing budget (ended run)
ended_course program start items params failing budget run h = (run_finish run, h, refl)

-- of a run that is stuck
abbrev pub stuck : ℕ → Course
stuck steps = record { events = []; outcome = None; steps = steps }

pub stuck_course :
    (program : Program) (start : Text) (items : List RunItem) (params : List Text) (failing : List ℕ) (budget : ℕ) (why : RunError) (steps : ℕ) →
    why ≡ error.Stuck steps → IfSome (result_finish (Err why)) (λ told. RunsProgram program start items params failing budget told) →
    IsCourse program start items params failing budget (stuck steps)
stuck_course program start items params failing budget why steps e h =
    (Stuck steps, subst (λ w. IfSome (result_finish (Err w)) (λ told. RunsProgram program start items params failing budget told)) e h, (refl, refl))
