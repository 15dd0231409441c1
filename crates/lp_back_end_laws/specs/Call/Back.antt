-- What a frame is told by a callee that succeeded.
use Rattle.std.specs.Prelude.{◌≡◌, ℕ, ◌<◌, pos, List, map, Some, slice_get, slice_set}
use Rattle.lp_repr.specs.declared.lr1.Lr1State.{Lr1State}
use Rattle.lp_repr.specs.declared.repr.Grammar.{Grammar}
use Rattle.lp_repr.specs.declared.values.RunItem.{RunItem}
use Rattle.lp_machine.specs.declared.config.Config.{Config}
use Rattle.lp_machine.specs.Tables.{Tables}
use Rattle.lp_core.specs.Store.{Held, States}
use Rattle.lp_core.specs.Val.{Val}
use Rattle.lp_ascent.specs.Slots.{is_cell}
use Rattle.lp_back_end_laws.specs.Call.Slots.{layout}
use Rattle.lp_back_end_laws.specs.Call.Frames.{AreSlots, Emptied}
use Rattle.lp_back_end_laws.specs.Call.Standing.{Reduced}

-- where the frame of s at c had these own slots over some cells, and called the function of p, which left others: the machine is at the end of a reduction whose item stands in s
pub record Back (g : Grammar) (states : List Lr1State) (t : Tables) (items : List RunItem) (variant : ℕ → ℕ) (s p : ℕ) (c : Config) (list : ℕ) (own : List Val) (before called : List Held) (inner : Val) (now : Config) : Type 0 where
  pub d : ℕ
  pub reduced : Reduced states t items variant s c d inner now
  -- of the frame's own slots the last ones are emptied, once the list of states is as it was
  pub cells : Emptied (layout g states s) d own before (slice_set called list (States (map pos c.states)))
  pub list_there : slice_get (slice_set called list (States (map pos c.states))) list ≡ Some (States (map pos c.states))
  -- where the callee has several fixed slots the frame returns, else it goes on with its own slots
  pub returns : 1 < (layout g states p).fixed → 0 < d
  pub goes_on : (layout g states p).fixed ≡ 1 → AreSlots (layout g states s) (is_cell (layout g states s)) d c.triples (slice_set called list (States (map pos c.states))) own
