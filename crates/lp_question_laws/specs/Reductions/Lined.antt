-- Lines of a reduction that were run.
use Rattle.std.specs.Prelude.{◌≡◌, ℕ, ◌+◌, ◌≤◌, ℤ, List, length}
use Rattle.lp_driver.specs.Values.{Spanned}
use Rattle.lp_core.specs.Store.{Program, UserCall}
use Rattle.lp_core.specs.Val.{Val}
use Rattle.lp_maker.specs.Slots.{Names}
use Rattle.lp_bodies.specs.Lines.{Lines}
use Rattle.lp_code_laws.specs.Ends.Ends.{Moment}
use Rattle.lp_code_laws.specs.Printed.Ran.{Ran}
use Rattle.lp_question_laws.specs.Reductions.Outer.{Lasts}
use Rattle.lp_question_laws.specs.Reductions.Stacks.{over_two}

-- They lead, in at most so many steps, to these slots, calls and symbols; so many slots were given out.
pub record Lined (p : Program) (old : Names) (before : List Val) (start : Moment) (taken : ℕ) (ss : List ℤ) (l : List (Spanned Val)) (calls : List UserCall) (most used : ℕ) (now : List Val) (lines : Lines) : Type 0 where
  pub count : ℕ
  pub ran : Ran p lines start count (over_two now taken calls ss l)
  pub few : count ≤ most
  pub next : lines.names.next ≡ old.next + used
  pub size : length now ≡ length before
  pub lasts : Lasts old before lines.names now
