-- Where a call begins, and what it leaves.
use Rattle.std.specs.Prelude.{ℕ, List, ◌++◌, replicate, take}
use Rattle.lp_core.specs.declared.expr.Function.{Function}
use Rattle.lp_core.specs.Datum.{Unset}
use Rattle.lp_core.specs.Val.{Val, Plain}
use Rattle.lp_core.specs.Store.{Held}
use Rattle.lp_code_laws.specs.Ends.Ends.{Moment, over, Outcome, Giving, Returning}

-- the slots of a new call
abbrev pub begun : Function → List Val → Moment → Moment
begun fn vs m = over (record m.store { env = vs ++ replicate fn.slots (Plain Unset) }) m

-- back in the caller: its slots, and the cells that it had
abbrev pub back_in : List Val → ℕ → Moment → Moment
back_in env cells m = over (record m.store { env = env; cells = take cells m.store.cells }) m

-- no return leaves a call
abbrev pub left_with : List Val → ℕ → Outcome → Outcome
left_with env cells (Giving v m) = Giving v (back_in env cells m)
left_with env cells (Returning v m) = Giving v (back_in env cells m)

-- the value, and where it is given
abbrev pub value_in : Outcome → Val
value_in (Giving v m) = v
value_in (Returning v m) = v

abbrev pub moment_in : Outcome → Moment
moment_in (Giving v m) = m
moment_in (Returning v m) = m

-- the caller's slots again, over these cells
abbrev pub given_back : List Val → List Held → Outcome → Outcome
given_back env cells o = Giving (value_in o) (over (record { env = env; cells = cells; taken = (moment_in o).store.taken }) (moment_in o))
