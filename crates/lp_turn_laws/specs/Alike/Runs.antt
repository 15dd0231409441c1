-- Where the runs of a driver lead.
use Rattle.std.specs.Prelude.{◌≡◌, ℕ, ◌+◌, ◌*◌, ◌<◌, List, map, Some}
use Rattle.lp_repr.specs.declared.values.RunItem.{RunItem}
use Rattle.lp_driver.specs.DriverState.{Next, Ends, Halted}
use Rattle.lp_driver.specs.Questions.{Spent}
use Rattle.lp_driver.specs.Values.{Ending}
use Rattle.lp_machine.specs.declared.calls.Call.{Call}
use Rattle.lp_machine.specs.Move.{moves}
use Rattle.lp_machine.specs.Moves.{first}
use Rattle.lp_machine.specs.RunEnds.{ended}
use Rattle.lp_machine.specs.Tables.{Tables}
use Rattle.lp_turn_laws.specs.Alike.Answered.{IsFront}
use Rattle.lp_turn_laws.specs.Alike.Course.{rate}

-- Where a run leads: to the machine's end, with its calls; or, after calls that its begin with, to a halt for want of the costs of its moves until its end and of one more.
pub data Course {S D U : Type 0} (left : D → ℕ) (seen : D → List U) (told : Call → U) (t : Tables) (cost : ℕ) (items : List RunItem) (d : D) : Next S D → Type 0 where
  Comes : (e : Ending) (after : D) (m : ℕ) → ended (moves t items m (first t items)).left ≡ Some e → seen after ≡ map told (moves t items m (first t items)).calls
      → Course left seen told t cost items d (Ends e after)
  Stops : (after : D) (m : ℕ) → IsFront (seen after) (map told (moves t items m (first t items)).calls)
      → ((k : ℕ) (e : Ending) → ended (moves t items k (first t items)).left ≡ Some e → left d < rate t * cost * (k + 1))
      → Course left seen told t cost items d (Halted Spent after)
