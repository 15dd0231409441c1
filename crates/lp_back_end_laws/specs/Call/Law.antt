-- The law of a call, for recursive ascent: what a state's function answers is what the machine comes to.
use Rattle.std.specs.Prelude.{◌≡◌, ◌⊎◌, ℕ, ◌+◌, ◌*◌, ◌<◌, ◌≤◌, true, List, Err, IsSome}
use Rattle.lp_repr.specs.declared.lr1.Lr1State.{Lr1State}
use Rattle.lp_repr.specs.declared.repr.Grammar.{Grammar}
use Rattle.lp_repr.specs.declared.values.RunItem.{RunItem}
use Rattle.lp_driver.specs.Values.{Failure}
use Rattle.lp_machine.specs.declared.config.Config.{Config}
use Rattle.lp_machine.specs.declared.config.Left.TheVariants.{Over}
use Rattle.lp_machine.specs.declared.lookup.Rule.{Rule}
use Rattle.lp_machine.specs.Move.{moves}
use Rattle.lp_machine.specs.RunEnds.{ended}
use Rattle.lp_machine.specs.Tables.{Tables}
use Rattle.lp_core.specs.declared.value.Tag.TheVariants as tag
use Rattle.lp_core.specs.Eval.{run_call}
use Rattle.lp_core.specs.Flow.{State, Flow, Gives, Returns, Spent, Stuck}
use Rattle.lp_core.specs.OpMeaning.{failure_val}
use Rattle.lp_core.specs.Prefix.{IsPrefix}
use Rattle.lp_core.specs.Reading.{wrapped}
use Rattle.lp_core.specs.Store.{Program, UserCall}
use Rattle.lp_core.specs.Val.{Val}
use Rattle.lp_back_end_laws.specs.Call.Slots.{layout}
use Rattle.lp_back_end_laws.specs.Call.Frames.{Emptied}
use Rattle.lp_back_end_laws.specs.Call.Standing.{as_users, Entry, Reduced}

-- symbols are taken of every frame but the first, and of the first unless the start's production is reduced
abbrev pub Takes : ℕ → ℕ → Rule → Type 0
Takes s d rule = ((s ≡ 0) × (rule.is_start ≡ true)) ⊎ (0 < d)

-- of a machine's tables and items, where a move costs at most `most` steps and nonterminals are variants of these numbers
module _ (g : Grammar) (states : List Lr1State) (t : Tables) (items : List RunItem) (variant : ℕ → ℕ) (most : ℕ) where
  -- it succeeds: the machine comes to the end of a reduction, and of the frame's cells exactly those of the last d slots are emptied
  pub record Result (s : ℕ) (c : Config) (slots : List Val) (st : State) (v : Val) (st' : State) : Type 0 where
    pub made : ℕ
    pub d : ℕ
    pub inner : Val
    pub reduced : Reduced states t items variant s c d inner (moves t items made c)
    pub value : v ≡ wrapped tag.Success inner
    pub takes : Takes s d reduced.rule
    pub cells : Emptied (layout g states s) d slots st.store.cells st'.store.cells
    pub env : st'.store.env ≡ st.store.env
    pub taken : st'.store.taken ≡ (moves t items made c).taken
    pub calls : st'.calls ≡ as_users (moves t items made c).calls
    pub steps : st.left + 1 ≤ st'.left + most * (made + 1)

  -- it fails as the machine does: an error goes through all frames, so nothing is said of cells
  pub record FailedWith (c : Config) (st : State) (v : Val) (st' : State) : Type 0 where
    pub made : ℕ
    pub failure : Failure
    pub over : (moves t items made c).left ≡ Over (Err failure)
    pub value : v ≡ wrapped tag.Failure (failure_val failure)
    pub calls : st'.calls ≡ as_users (moves t items made c).calls
    pub steps : st.left + 1 ≤ st'.left + most * (made + 1)

  -- the budget is spent, after calls that the machine makes too, and only where it was too small for the moves until the end
  pub record SpentOn (c : Config) (st : State) (calls : List UserCall) : Type 0 where
    pub made : ℕ
    pub first : IsPrefix calls (as_users (moves t items made c).calls)
    pub early : (k : ℕ) → IsSome (ended (moves t items k c).left) → st.left + 1 < most * (k + 1)

  -- how a call ends
  abbrev pub Answers : ℕ → Config → List Val → State → Flow → Type 0
  Answers s c slots st (Gives v st') = Result s c slots st v st' ⊎ FailedWith c st v st'
  Answers s c slots st (Returns v st') = ⊥
  Answers s c slots st (Spent calls) = SpentOn c st calls
  Answers s c slots st (Stuck left calls) = ⊥

  -- every call of a state's function ends so, where the functions of a program have these numbers and the grammar's parameters these values
  abbrev pub Law : Program → (ℕ → ℕ) → List Val → Type 0
  Law p function given =
      (s : ℕ) (c : Config) (list : ℕ) (slots vs : List Val) (st : State) → Entry g states t items given s c list slots vs st → Answers s c slots st (run_call p (function s) vs st)
