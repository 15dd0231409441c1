-- A driver's turns, one after the other, and what a run gives.
use Rattle.std.specs.Prelude.{◌≡◌, ℕ, zero, suc, ℤ, List, [], ◌∷◌, Option, Some, None, Result, Ok, Err}
use Rattle.lp_repr.specs.declared.values.Loc.{Loc}
use Rattle.lp_repr.specs.declared.values.RunItem.{RunItem}
use Rattle.lp_repr.specs.declared.values.Outcome.{Outcome}
use Rattle.lp_repr.specs.declared.values.Outcome.TheVariants as outcome
use Rattle.lp_driver.specs.declared.answers.Stop.{Stop}
use Rattle.lp_driver.specs.declared.answers.Stop.TheVariants as stop
use Rattle.lp_driver.specs.Values.{Gives, Fails, value_of}
use Rattle.lp_driver.specs.Questions.{Answers, Start_location, Start_state, Spent, Stuck}
use Rattle.lp_driver.specs.DriverState.{Driver, Mode, Parsing, Reducing, Trying, Simulating, Next, Goes_on, Ends, Halted, on_answer}
use Rattle.lp_driver.specs.ParsingTurns.{parsing}
use Rattle.lp_driver.specs.RecoveryTurns.{reducing, trying_from, simulating}

module _ {S D : Type 0} (answers : Answers S D) where
  abbrev pub turn_in : Driver S → Mode → D → Next S D
  turn_in w (Parsing l) d = parsing answers w l d
  turn_in w (Reducing r) d = reducing answers w r d
  turn_in w (Trying r places) d = trying_from answers w r places d
  turn_in w (Simulating r place stack) d = simulating answers w r place stack d

  -- one turn
  abbrev pub turn : Driver S → D → Next S D
  turn w d = turn_in w w.mode d

  abbrev pub goes_on : Next S D → (Driver S → D → Next S D) → Next S D
  goes_on (Goes_on w d) go = go w d
  goes_on (Ends e d) go = Ends e d
  goes_on (Halted why d) go = Halted why d

  -- at most n turns, after which the run is where it is
  abbrev pub turns : ℕ → Driver S → D → Next S D
  turns zero w d = Goes_on w d
  turns (suc n) w d = goes_on (turn w d) (turns n)

  abbrev pub first : List RunItem → Loc → ℤ → Driver S
  first items a s = record { states = s ∷ []; symbols = []; items = items; mode = Parsing None; begin = a; last = a }

  -- the run on these items, after at most n turns
  abbrev pub run : ℕ → List RunItem → D → Next S D
  run n items d = on_answer (answers Start_location d) (λ a d'. on_answer (answers Start_state d') (λ s d''. turns n (first items a s) d''))

-- what a run gave: its outcome, or the stop that was answered; want of memory is free
abbrev pub Ended : {S D : Type 0} → Result Outcome Stop → D → Next S D → Type 0
Ended (Ok (outcome.Value v)) d next = next ≡ Ends (Gives (value_of v)) d
Ended (Ok (outcome.Error e)) d next = next ≡ Ends (Fails e) d
Ended (Ok outcome.Spent) d next = ⊥
Ended (Err stop.Spent) d next = next ≡ Halted Spent d
Ended (Err stop.Stuck) d next = next ≡ Halted Stuck d
Ended (Err stop.Memory) d next = Unit {0}

-- what one turn gave
abbrev pub Turned : {S D : Type 0} → Result (Option Outcome) Stop → Driver S → D → Next S D → Type 0
Turned (Ok None) w d next = next ≡ Goes_on w d
Turned (Ok (Some o)) w d next = Ended (Ok o) d next
Turned (Err e) w d next = Ended (Err e) d next
