-- A call ends with a value, spent or stuck: no `return` leaves it.
use Rattle.std.proofs.Common.{◌≡◌, ℕ, zero, suc, Bool, true, false, List, Option, Some, None, refl, ap, ◌∙◌, subst}
use Rattle.std.specs.Prelude.{slice_get, length, ◌==◌, if◌then◌else◌}
use Rattle.lp_core.specs.declared.expr.Function.{Function}
use Rattle.lp_core.specs.declared.run.Ending.{Ending}
use Rattle.lp_core.specs.Val.{Val}
use Rattle.lp_core.specs.Tree.{Tree}
use Rattle.lp_core.specs.Store.{Program}
use Rattle.lp_core.specs.Flow.{State, Flow, Gives, Returns, Spent, Stuck, spend_from, leave}
use Rattle.lp_core.specs.Eval.{enter, enter_with, entered, run, run_call}
use Rattle.lp_core.specs.Endings.{Ends, as_call}

leave_ends : (env : List Val) (n : ℕ) (fl : Flow) → as_call (leave env n fl) ≡ leave env n fl
leave_ends env n (Gives v st) = refl
leave_ends env n (Returns v st) = refl
leave_ends env n (Spent calls) = refl
leave_ends env n (Stuck left calls) = refl

module _ (p : Program) (ev : Tree → State → Flow) (vs : List Val) where
  when_ends : (b : Bool) (fn : Function) (st : State) → as_call (if b then enter_with p fn ev vs st else Stuck st.left st.calls) ≡ (if b then enter_with p fn ev vs st else Stuck st.left st.calls)
  when_ends true fn st = leave_ends st.store.env (length st.store.cells) (ev fn.body (entered p fn vs st))
  when_ends false fn st = refl

  enter_ends : (o : Option Function) (st : State) → as_call (enter p o ev vs st) ≡ enter p o ev vs st
  enter_ends None st = refl
  enter_ends (Some fn) st = when_ends (fn.params == length vs) fn st

  spend_ends : (m : ℕ) (o : Option Function) (st : State) → as_call (spend_from m st (enter p o ev vs)) ≡ spend_from m st (enter p o ev vs)
  spend_ends zero o st = refl
  spend_ends (suc k) o st = enter_ends o (record st { left = k })

-- so what is over tells how the call ends
pub over_ends : (p : Program) (f : ℕ) (vs : List Val) (before : State) (e : Ending) (st : State) (fl : Flow) → Ends e st (as_call fl) → fl ≡ run_call p f vs before → Ends e st (run_call p f vs before)
over_ends p f vs before e st fl h same =
    subst (Ends e st) (ap as_call same ∙ spend_ends p (run p) vs before.left (slice_get p.functions f) before) h
