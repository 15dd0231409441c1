-- The loop over gotos of a state's function: where a turn begins, and what the loop answers.
use Rattle.std.specs.Prelude.{◌≡◌, ◌⊎◌, ℕ, ◌+◌, ◌*◌, ◌≤◌, true, List, ◌++◌, length, codes, decimal, Err, IsSome, Some, slice_get}
use Rattle.lp_repr.specs.declared.lr1.Lr1State.{Lr1State}
use Rattle.lp_repr.specs.declared.repr.Grammar.{Grammar}
use Rattle.lp_repr.specs.declared.values.RunItem.{RunItem}
use Rattle.lp_driver.specs.Values.{Failure}
use Rattle.lp_machine.specs.declared.config.Config.{Config}
use Rattle.lp_machine.specs.declared.config.Left.TheVariants.{Over}
use Rattle.lp_machine.specs.Lookup.{goto_at}
use Rattle.lp_machine.specs.Move.{moves}
use Rattle.lp_machine.specs.RunEnds.{ended}
use Rattle.lp_machine.specs.Tables.{Tables}
use Rattle.lp_core.specs.declared.value.Tag.TheVariants as tag
use Rattle.lp_core.specs.Datum.{Cell}
use Rattle.lp_core.specs.Eval.{run}
use Rattle.lp_core.specs.Flow.{State, Flow, Gives, Returns, Spent, Stuck}
use Rattle.lp_core.specs.OpMeaning.{failure_val}
use Rattle.lp_core.specs.Prefix.{IsPrefix}
use Rattle.lp_core.specs.Reading.{empty, wrapped}
use Rattle.lp_core.specs.Store.{Program, UserCall}
use Rattle.lp_core.specs.Tree.{Tree, Loop}
use Rattle.lp_core.specs.Val.{Val, Plain}
use Rattle.lp_maker.specs.Slots.{Names}
use Rattle.lp_code_laws.specs.Slots.Shows.{Shows}
use Rattle.lp_question_laws.specs.Reductions.Arguments.{ShowAll}
use Rattle.lp_ascent.specs.GotoLines.{goes_on}
use Rattle.lp_ascent.specs.Slots.{is_cell, layouts_of}
use Rattle.lp_back_end_laws.specs.Call.Slots.{layout}
use Rattle.lp_back_end_laws.specs.Call.Frames.{AreSlots, AreApart, Emptied}
use Rattle.lp_back_end_laws.specs.Call.Standing.{as_users, Follows, OnTop, Reduced}
use Rattle.lp_back_end_laws.specs.Call.Law.{Takes}

-- the loop of a state's function: the names before it, the slot of what was made last, how many slots there are, and a turn
pub record Looping : Type 0 where
  pub names : Names
  pub made : ℕ
  pub many : ℕ
  pub turn : Tree

-- what a frame's names hold, but for the lookahead and what was made: the grammar's parameters by these names, the token source, the list of states and the slots
pub record ShowsFrame (names : Names) (env : List Val) (keys : List (List ℕ)) (given : List Val) (list : ℕ) (own : List Val) : Type 0 where
  pub parameters : ShowAll names env keys given
  pub tokens : Shows names env (codes "~tokens") (empty tag.Tuple)
  pub states : Shows names env (codes "~states") (Plain (Cell list))
  pub slots : (j : ℕ) (v : Val) → slice_get own j ≡ Some v → Shows names env (codes "~sym" ++ decimal j) v

-- as in the law of a call
module _ (g : Grammar) (states : List Lr1State) (t : Tables) (items : List RunItem) (variant : ℕ → ℕ) (most : ℕ) where
  -- before a turn, in the call of the state's function at c: the machine is at the end of a reduction, of the frame's own slots the last d are taken
  pub record Turning (keys : List (List ℕ)) (given : List Val) (loop : Looping) (s : ℕ) (c : Config) (list : ℕ) (own : List Val) (now : Config) (st : State) : Type 0 where
    pub some_goto : (n : ℕ) × IsSome (goto_at states s n)
    -- the frame goes on, so its function has the loop
    pub goes : (x : Lr1State) × (slice_get states s ≡ Some x) × (goes_on g (layouts_of g states) x ≡ true)
    pub on_top : OnTop states s c
    pub d : ℕ
    pub inner : Val
    pub reduced : Reduced states t items variant s c d inner now
    pub many : length st.store.env ≡ loop.many
    pub result : slice_get st.store.env loop.made ≡ Some inner
    pub shown : ShowsFrame loop.names st.store.env keys given list own
    pub own_are : AreSlots (layout g states s) (is_cell (layout g states s)) d c.triples st.store.cells own
    pub apart : AreApart own
    -- the list of states is the frame's, items and calls are the machine's
    pub follows : Follows (record now { states = c.states }) list st

  -- it returns what the machine comes to; what was taken before, the last d0 of the frame's own slots, stays so
  pub record TurnResult (s : ℕ) (c : Config) (own : List Val) (d0 : ℕ) (now : Config) (st : State) (v : Val) (st' : State) : Type 0 where
    pub made : ℕ
    pub d : ℕ
    pub no_less : d0 ≤ d
    pub inner : Val
    pub reduced : Reduced states t items variant s c d inner (moves t items made now)
    pub value : v ≡ wrapped tag.Success inner
    pub takes : Takes s d reduced.rule
    pub cells : Emptied (layout g states s) d own st.store.cells st'.store.cells
    pub taken : st'.store.taken ≡ (moves t items made now).taken
    pub calls : st'.calls ≡ as_users (moves t items made now).calls
    pub steps : st.left ≤ st'.left + most * made + 1

  pub record TurnFails (now : Config) (st : State) (v : Val) (st' : State) : Type 0 where
    pub made : ℕ
    pub failure : Failure
    pub over : (moves t items made now).left ≡ Over (Err failure)
    pub value : v ≡ wrapped tag.Failure (failure_val failure)
    pub calls : st'.calls ≡ as_users (moves t items made now).calls
    pub steps : st.left ≤ st'.left + most * made

  pub record TurnSpent (now : Config) (st : State) (calls : List UserCall) : Type 0 where
    pub made : ℕ
    pub first : IsPrefix calls (as_users (moves t items made now).calls)
    pub early : (k : ℕ) → IsSome (ended (moves t items k now).left) → st.left ≤ most * k

  -- how a loop ends: only a return leaves it
  abbrev pub TurnAnswers : ℕ → Config → List Val → ℕ → Config → State → Flow → Type 0
  TurnAnswers s c own d0 now st (Gives v st') = ⊥
  TurnAnswers s c own d0 now st (Returns v st') = TurnResult s c own d0 now st v st' ⊎ TurnFails now st v st'
  TurnAnswers s c own d0 now st (Spent calls) = TurnSpent now st calls
  TurnAnswers s c own d0 now st (Stuck left calls) = ⊥

  -- every loop ends so, where these are the loops of the states' functions
  abbrev pub LoopLaw : Program → List (List ℕ) → List Val → (ℕ → Looping) → Type 0
  LoopLaw p keys given loops =
      (s : ℕ) (c : Config) (list : ℕ) (own : List Val) (now : Config) (st : State) → (h : Turning keys given (loops s) s c list own now st) → TurnAnswers s c own h.d now st (run p (Loop (loops s).turn) st)
