-- Each turn that goes on lowers the steps left, so no run outlasts them.
use Rattle.std.proofs.Common.{ℕ, zero, suc, ◌<◌, ◌≤◌, false, List, arith}
use Rattle.lp_repr.specs.declared.values.Loc.{Loc}
use Rattle.lp_repr.specs.declared.values.RunItem.{RunItem}
use Rattle.lp_driver.specs.Questions.{Said, Says, Halts, Lowers, Start_location, Start_state}
use Rattle.lp_driver.specs.DriverState.{Driver, Next, Goes_on, Ends, Halted, on_answer}
use Rattle.lp_driver.specs.Turns.{turn, turns, goes_on, first}
use Rattle.lp_driver.proofs.Falls.{Falls, turn_falls}
use Rattle.lp_core.specs.Val.{Val}
use Rattle.lp_turns.specs.declared.runner.Runner.{Runner}
use Rattle.lp_turns.specs.DriverCall.{program_answers, left_of, stuck_of}
use Rattle.lp_turns.specs.DriverCallLaw.{program_law}
use Rattle.lp_run.specs.RunLaw.{IsOver, DriverEnds}

over_on : (n : ℕ) (next : Next Val Runner) (go : Driver Val → Runner → Next Val Runner) → Falls program_answers left_of stuck_of program_law n next
    → ((w : Driver Val) (d : Runner) → d.left < n → IsOver (go w d)) → IsOver (goes_on program_answers next go)
over_on n (Goes_on w d) go h k = k w d h
over_on n (Ends ending d) go h k = tt
over_on n (Halted why d) go h k = tt

turns_end : (n : ℕ) (w : Driver Val) (d : Runner) → d.left < n → IsOver (turns program_answers n w d)
turns_end zero w d h = absurd (omega arith)
turns_end (suc n) w d h =
    over_on d.left (turn program_answers w d) (turns program_answers n) (turn_falls program_answers left_of stuck_of program_law w d) (λ w' d' f. turns_end n w' d' (omega arith))

answer_ends : {A : Type 0} (n : ℕ) (said : Said A Runner) (go : A → Runner → Next Val Runner) → Lowers left_of stuck_of false n said
    → ((x : A) (d : Runner) → d.left < n → IsOver (go x d)) → IsOver (on_answer said go)
answer_ends n (Says x d) go h k = k x d h
answer_ends n (Halts why d) go h k = tt

abbrev after_start : List RunItem → ℕ → Loc → Runner → Next Val Runner
after_start items n a d = on_answer (program_answers Start_state d) (λ s d'. turns program_answers n (first program_answers items a s) d')

start_ends : (items : List RunItem) (n : ℕ) (a : Loc) (d : Runner) → d.left ≤ n → IsOver (after_start items n a d)
start_ends items n a d le =
    answer_ends d.left (program_answers Start_state d) (λ s d'. turns program_answers n (first program_answers items a s) d') (program_law Start_state d)
    (λ s d' h. turns_end n (first program_answers items a s) d' (omega arith))

pub driver_ends : DriverEnds
driver_ends items d =
    answer_ends d.left (program_answers Start_location d) (after_start items (suc d.left)) (program_law Start_location d)
    (λ a d' h. start_ends items (suc d.left) a d' (omega arith))
