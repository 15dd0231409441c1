-- A call leaves the caller's slots as they were, however it ends.
use Rattle.std.proofs.Common.{◌≡◌, ℕ, zero, suc, Bool, true, false, List, Option, Some, None, refl, subst}
use Rattle.std.specs.Prelude.{slice_get, length, ◌==◌, if◌then◌else◌}
use Rattle.lp_core.specs.declared.expr.Function.{Function}
use Rattle.lp_core.specs.Val.{Val}
use Rattle.lp_core.specs.Store.{Program}
use Rattle.lp_core.specs.Tree.{Tree}
use Rattle.lp_core.specs.Flow.{State, Flow, Gives, Returns, Spent, Stuck, stuck, leave}
use Rattle.lp_core.specs.Eval.{run, run_call, enter, enter_with}

-- what a flow gives has these slots
abbrev HasEnv : List Val → Flow → Type 0
HasEnv env (Gives v st) = st.store.env ≡ env
HasEnv env (Returns v st) = Unit {0}
HasEnv env (Spent calls) = Unit {0}
HasEnv env (Stuck left calls) = Unit {0}

leave_env : (env : List Val) (n : ℕ) (fl : Flow) → HasEnv env (leave env n fl)
leave_env env n (Gives v st) = refl
leave_env env n (Returns v st) = refl
leave_env env n (Spent calls) = tt
leave_env env n (Stuck left calls) = tt

enter_env : (p : Program) (o : Option Function) (ev : Tree → State → Flow) (vs : List Val) (st : State) → HasEnv st.store.env (enter p o ev vs st)
enter_env p None ev vs st = tt
enter_env p (Some fn) ev vs st = by (fn.params == length vs)
  where
    by : (b : Bool) → HasEnv st.store.env (if b then enter_with p fn ev vs st else stuck st)
    by true = leave_env st.store.env (length st.store.cells) (ev fn.body _)
    by false = tt

call_env : (p : Program) (f : ℕ) (vs : List Val) (left : ℕ) (st : State) → HasEnv st.store.env (run_call p f vs (record st { left = left }))
call_env p f vs zero st = tt
call_env p f vs (suc left) st = enter_env p (slice_get p.functions f) (run p) vs (record st { left = left })

pub env_back : (p : Program) (f : ℕ) (vs : List Val) (st back : State) (v : Val) → run_call p f vs st ≡ Gives v back → back.store.env ≡ st.store.env
env_back p f vs st back v is = subst (HasEnv st.store.env) is (call_env p f vs st.left st)
