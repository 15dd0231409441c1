-- How expressions end, and how one goes on with what another gave.
use Rattle.std.specs.Prelude.{ℕ, zero, suc, Bool, true, false, List, take, Option, Some, None}
use Rattle.lp_core.specs.Val.{Val}
use Rattle.lp_core.specs.Store.{Store, UserCall}
use Rattle.lp_core.specs.Effect.{Effect, Gave, Returned, Failed, written}

-- slots, cells and items taken; the calls of user code so far; how many steps are left
pub record State : Type 0 where
  pub store : Store
  pub calls : List UserCall
  pub left : ℕ

-- how an expression ends
pub data Flow : Type 0 where
  Gives : (v : Val) (st : State) → Flow
  Returns : (v : Val) (st : State) → Flow
  -- one step more would be made than are left, after these calls
  Spent : (calls : List UserCall) → Flow
  -- it has no meaning, with so many steps left, after these calls
  Stuck : (left : ℕ) (calls : List UserCall) → Flow

abbrev pub stuck : State → Flow
stuck st = Stuck st.left st.calls

-- what an operation does
abbrev pub flow : State → Effect → Flow
flow st (Gave v s) = Gives v (record st { store = s })
flow st (Returned v s) = Returns v (record st { store = s })
flow st Failed = stuck st

-- goes on with a value
abbrev pub then_value : Flow → (Val → State → Flow) → Flow
then_value (Gives v st) go = go v st
then_value (Returns v st) go = Returns v st
then_value (Spent calls) go = Spent calls
then_value (Stuck left calls) go = Stuck left calls

-- `if`
abbrev pub choose : Option Bool → (State → Flow) → (State → Flow) → State → Flow
choose None a b st = stuck st
choose (Some true) a b st = a st
choose (Some false) a b st = b st

-- goes on over a store that there is
abbrev pub over_store : State → (State → Flow) → Option Store → Flow
over_store st go None = stuck st
over_store st go (Some s) = go (record st { store = s })

-- goes on with the chosen body of a match, the value in its slot
abbrev pub with_body : ℕ → Val → (ℕ → State → Flow) → Option ℕ → State → Flow
with_body x v bodies None st = stuck st
with_body x v bodies (Some i) st = over_store st (bodies i) (written x v st.store)

-- one step is made, if there is one left
abbrev pub spend_from : ℕ → State → (State → Flow) → Flow
spend_from zero st go = Spent st.calls
spend_from (suc k) st go = go (record st { left = k })

abbrev pub spend : State → (State → Flow) → Flow
spend st go = spend_from st.left st go

-- the turns of a loop, of which there are at most n: only `return` leaves it
abbrev pub turns : ℕ → (State → Flow) → State → Flow
turns zero body st = Spent st.calls
turns (suc n) body st = spend st (λ st'. then_value (body st') (λ v. turns n body))

-- back in the caller: its slots, and the cells that it had
abbrev pub back : List Val → ℕ → State → State
back env n st = record st { store = record st.store { env = env; cells = take n st.store.cells } }

abbrev pub leave : List Val → ℕ → Flow → Flow
leave env n (Gives v st) = Gives v (back env n st)
leave env n (Returns v st) = Gives v (back env n st)
leave env n (Spent calls) = Spent calls
leave env n (Stuck left calls) = Stuck left calls
