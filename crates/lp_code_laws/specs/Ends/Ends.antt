-- How a run ends that isn't spent, for every number of steps that are left over.
use Rattle.std.specs.Prelude.{◌≡◌, ℕ, zero, suc, List}
use Rattle.lp_core.specs.declared.expr.Target.{Target}
use Rattle.lp_core.specs.Val.{Val}
use Rattle.lp_core.specs.Tree.{Tree, Trees}
use Rattle.lp_core.specs.Store.{Store, UserCall, Program}
use Rattle.lp_core.specs.Flow.{State, Flow, Gives, Returns}
use Rattle.lp_core.specs.Eval.{run, run_args, run_block, run_at, run_call}

-- what a run goes on from, but for the steps that are left
pub record Moment : Type 0 where
  pub store : Store
  pub calls : List UserCall

abbrev pub moment : Store → List UserCall → Moment
moment s calls = record { store = s; calls = calls }

-- the same calls of user code, over another store
abbrev pub over : Store → Moment → Moment
over s m = record { store = s; calls = m.calls }

abbrev pub at : Moment → ℕ → State
at m left = record { store = m.store; calls = m.calls; left = left }

-- so many steps and what is left: it computes where their number is written out
abbrev pub steps : ℕ → ℕ → ℕ
steps zero left = left
steps (suc k) left = suc (steps k left)

-- what is run
pub data Task : Type 0 where
  Eval : (e : Tree) → Task
  Sequence : (es : Trees) (v : Val) → Task
  Arguments : (g : Target) (args : Trees) (vs : List Val) → Task
  Body : (bodies : Trees) (i : ℕ) → Task
  Enter : (f : ℕ) (vs : List Val) → Task

abbrev pub run_task : Program → Task → State → Flow
run_task p (Eval e) st = run p e st
run_task p (Sequence es v) st = run_block p es v st
run_task p (Arguments g args vs) st = run_args p g args vs st
run_task p (Body bodies i) st = run_at p bodies i st
run_task p (Enter f vs) st = run_call p f vs st

-- it gives a value, or the call returns one
pub data Outcome : Type 0 where
  Giving : (v : Val) (m : Moment) → Outcome
  Returning : (v : Val) (m : Moment) → Outcome

abbrev pub flow_of : Outcome → ℕ → Flow
flow_of (Giving v m) left = Gives v (at m left)
flow_of (Returning v m) left = Returns v (at m left)

-- in so many steps it ends so
pub record EndsIn (p : Program) (t : Task) (m : Moment) (k : ℕ) (o : Outcome) : Type 0 where
  pub runs : (left : ℕ) → run_task p t (at m (steps k left)) ≡ flow_of o left
