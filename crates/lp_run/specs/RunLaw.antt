-- A driver over a program ends.
use Rattle.std.specs.Prelude.{suc, List}
use Rattle.lp_repr.specs.declared.values.RunItem.{RunItem}
use Rattle.lp_driver.specs.DriverState.{Next, Goes_on, Ends, Halted}
use Rattle.lp_driver.specs.Turns.{run}
use Rattle.lp_core.specs.Val.{Val}
use Rattle.lp_turns.specs.declared.runner.Runner.{Runner}
use Rattle.lp_turns.specs.DriverCall.{program_answers}

-- a run that doesn't go on
abbrev pub IsOver : Next Val Runner → Type 0
IsOver (Goes_on w d) = ⊥
IsOver (Ends ending d) = Unit {0}
IsOver (Halted why d) = Unit {0}

-- more turns than there are steps are enough
abbrev pub DriverEnds : Type 0
DriverEnds = (items : List RunItem) (d : Runner) → IsOver (run program_answers (suc d.left) items d)
