-- Stretches of a state function: from one place of its code to another, and from a call on.
use Rattle.std.specs.Prelude.{◌≡◌, ℕ, List, Some}
use Rattle.lp_core.specs.declared.expr.Case.{Case}
use Rattle.lp_core.specs.declared.expr.Op.{Op}
use Rattle.lp_core.specs.declared.value.Tag.TheVariants as tag
use Rattle.lp_core.specs.Val.{Val}
use Rattle.lp_core.specs.Effect.{set_value}
use Rattle.lp_core.specs.Reading.{wrapped}
use Rattle.lp_core.specs.Store.{Program}
use Rattle.lp_core.specs.Tree.{Tree, Trees, Loop}
use Rattle.lp_core.specs.CaseMeaning.{chosen}
use Rattle.lp_core.specs.Flow.{State, Flow, Gives, then_value, with_body}
use Rattle.lp_core.specs.Eval.{apply, count, run, run_block, run_at, run_call}
use Rattle.lp_code_laws.specs.Ends.Ends.{Moment, at, steps, Task, run_task, Outcome, flow_of}

-- what is left of the code around a call, the innermost first
pub data Rest : Type 0 where
  Nothing : Rest
  -- an operation on the value, a match on it, the lines behind it, the further turns of its loop
  Applied : (op : Op) (inner : Rest) → Rest
  Matched : (slot : ℕ) (cases : List Case) (bodies : Trees) (inner : Rest) → Rest
  Behind : (lines : Trees) (inner : Rest) → Rest
  Turning : (turn : Tree) (inner : Rest) → Rest

-- it goes on with what the call gives
abbrev pub go_on : Program → Rest → Val → State → Flow
go_on p Nothing v st = Gives v st
go_on p (Applied op inner) v st = then_value (go_on p inner v st) (apply p op)
go_on p (Matched slot cases bodies inner) v st = then_value (go_on p inner v st) (λ w st'. with_body slot w (run_at p bodies) (chosen p cases (count bodies) w) st')
go_on p (Behind lines inner) v st = then_value (go_on p inner v st) (λ w st'. run_block p lines w st')
go_on p (Turning turn inner) v st = then_value (go_on p inner v st) (λ w st'. run p (Loop turn) st')

-- in so many steps it leads to another task, and ends as that does
pub record LeadsTo (p : Program) (t : Task) (m : Moment) (k : ℕ) (u : Task) (n : Moment) : Type 0 where
  pub runs : (left : ℕ) → run_task p t (at m (steps k left)) ≡ run_task p u (at n left)

-- in so many steps it calls a function with these values, and then the rest goes on
pub record CallsIn (p : Program) (t : Task) (m : Moment) (k f : ℕ) (vs : List Val) (n : Moment) (rest : Rest) : Type 0 where
  pub runs : (left : ℕ) → run_task p t (at m (steps k left)) ≡ then_value (run_call p f vs (at n left)) (go_on p rest)

-- with this value the rest ends so, in so many steps
pub record GoesOn (p : Program) (rest : Rest) (v : Val) (m : Moment) (k : ℕ) (o : Outcome) : Type 0 where
  pub runs : (left : ℕ) → go_on p rest v (at m (steps k left)) ≡ flow_of o left

-- with this value the rest leads to a task
pub record GoesTo (p : Program) (rest : Rest) (v : Val) (m : Moment) (k : ℕ) (t : Task) (n : Moment) : Type 0 where
  pub runs : (left : ℕ) → go_on p rest v (at m (steps k left)) ≡ run_task p t (at n left)

-- It calls a function; over such a store afterwards it goes on so with a success, and with a failure so, whatever the cells hold then.
pub record Passes (p : Program) (t : Task) (m : Moment) (k f : ℕ) (vs : List Val) (n : Moment) (Back : Moment → Type 0) (good bad : Val → Moment → Outcome) : Type 0 where
  pub rest : Rest
  pub calls : CallsIn p t m k f vs n rest
  pub success : (v : Val) (b : Moment) → set_value v ≡ Some v → Back b → GoesOn p rest (wrapped tag.Success v) b 0 (good v b)
  pub failure : (v : Val) (b : Moment) → set_value v ≡ Some v → b.store.env ≡ n.store.env → GoesOn p rest (wrapped tag.Failure v) b 0 (bad v b)

-- The same where with a success it goes on with a task.
pub record PassesTo (p : Program) (t : Task) (m : Moment) (k f : ℕ) (vs : List Val) (n : Moment) (Back : Moment → Type 0) (next : Val → Moment → Task) (there : Val → Moment → Moment) (bad : Val → Moment → Outcome) : Type 0 where
  pub rest : Rest
  pub calls : CallsIn p t m k f vs n rest
  pub success : (v : Val) (b : Moment) → set_value v ≡ Some v → Back b → GoesTo p rest (wrapped tag.Success v) b 0 (next v b) (there v b)
  pub failure : (v : Val) (b : Moment) → set_value v ≡ Some v → b.store.env ≡ n.store.env → GoesOn p rest (wrapped tag.Failure v) b 0 (bad v b)
