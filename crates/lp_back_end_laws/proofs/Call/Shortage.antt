-- With fewer steps than it takes to a place, a run is spent on the way, after calls of user code that come first there.
use Rattle.std.proofs.Common.{◌≡◌, ◌⊎◌, inl, inr, ℕ, zero, suc, ◌+◌, ◌-◌, ◌<◌, ◌≤◌, Bool, true, false, ltb, List, ◌∷◌, [], ◌++◌, length, Option, Some, None, refl, sym, ap, ◌∙◌, subst, arith, eq-eqb}
use Rattle.std.proofs.lemmas.Bool.Decides.{nat_tests}
use Rattle.std.specs.Prelude.{slice_get, ◌==◌, if◌then◌else◌}
use Rattle.lp_core.specs.declared.expr.Function.{Function}
use Rattle.lp_core.specs.declared.expr.Op.{Op}
use Rattle.lp_core.specs.declared.expr.Target.{Target}
use Rattle.lp_core.specs.declared.expr.Target.TheVariants as target
use Rattle.lp_core.specs.Val.{Val}
use Rattle.lp_core.specs.Tree.{Tree, Trees, Block, Loop, end, more}
use Rattle.lp_core.specs.Store.{Store, UserCall, Program}
use Rattle.lp_core.specs.Effect.{Effect, Gave, Returned, Failed, written}
use Rattle.lp_core.specs.OpMeaning.{op_meaning}
use Rattle.lp_core.specs.JoinMeaning.{join_meaning, join_calls}
use Rattle.lp_core.specs.Flow.{State, Flow, Gives, Returns, Spent, Stuck, flow, then_value, over_store, with_body, leave}
use Rattle.lp_core.specs.Eval.{apply, enter, enter_with, run, run_args, run_call, call_within}
use Rattle.lp_core.specs.Prefix.{IsPrefix}
use Rattle.lp_core.specs.Budget.{calls_in, more_left, Longer}
use Rattle.lp_core.proofs.Falls.{After, same_prefix, prefix_trans, eval_falls, args_falls, call_falls}
use Rattle.lp_core.proofs.Longer.{longer, call_is_longer}
use Rattle.lp_core.proofs.Same.{run_end, run_more}
use Rattle.lp_code_laws.specs.Ends.Ends.{Moment, at, steps, Task, Eval, Sequence, Arguments, Body, Enter, run_task, Outcome, Giving, Returning, flow_of}
use Rattle.lp_code_laws.specs.Ends.Calls.{begun}
use Rattle.lp_code_laws.specs.Ends.Spent.{calls_at}
use Rattle.lp_code_laws.specs.Ends.Cut.{Cut}
use Rattle.lp_code_laws.proofs.Ends.Steps.{steps_are}
use Rattle.lp_code_laws.proofs.Ends.Cuts.{cut_now, cut_loop}

-- calls of user code are only added, and with more steps it does the same where it isn't spent
pub record Steady (go : State → Flow) : Type 0 where
  pub adds : (st : State) → IsPrefix st.calls (calls_in (go st))
  pub longer : (d : ℕ) (st : State) → Longer d (go st) (go (more_left d st))

adds_after : (k : ℕ) (c : List UserCall) (fl : Flow) → After k c fl → IsPrefix c (calls_in fl)
adds_after k c (Gives v st) a = a.1
adds_after k c (Returns v st) a = a.1
adds_after k c (Spent calls) a = a
adds_after k c (Stuck left calls) a = a.1

then_adds : (c : List UserCall) (fl : Flow) (go : Val → State → Flow) → IsPrefix c (calls_in fl) → ((v : Val) → Steady (go v)) → IsPrefix c (calls_in (then_value fl go))
then_adds c (Gives v st) go a h = prefix_trans c st.calls (calls_in (go v st)) a ((h v).adds st)
then_adds c (Returns v st) go a h = a
then_adds c (Spent calls) go a h = a
then_adds c (Stuck left calls) go a h = a

then_longer : (d : ℕ) (fl fl' : Flow) (go : Val → State → Flow) → Longer d fl fl' → ((v : Val) → Steady (go v)) → Longer d (then_value fl go) (then_value fl' go)
then_longer d (Gives v st) fl' go e h = subst (λ x. Longer d (go v st) (then_value x go)) (sym e) ((h v).longer d st)
then_longer d (Returns v st) fl' go e h = ap (λ x. then_value x go) e
then_longer d (Spent calls) fl' go e h = then_adds calls fl' go e h
then_longer d (Stuck left calls) fl' go e h = ap (λ x. then_value x go) e

-- one after the other
pub then_steady : (go : State → Flow) (next : Val → State → Flow) → Steady go → ((v : Val) → Steady (next v)) → Steady (λ st. then_value (go st) next)
then_steady go next h g = record { adds = λ st. then_adds st.calls (go st) next (h.adds st) g; longer = λ d st. then_longer d (go st) (go (more_left d st)) next (h.longer d st) g }

-- the same run, written in another way
same_steady : (go run : State → Flow) → ((st : State) → run st ≡ go st) → Steady go → Steady run
same_steady go run is h = record {
  adds = λ st. subst (λ fl. IsPrefix st.calls (calls_in fl)) (sym (is st)) (h.adds st);
  longer = λ d st. subst (λ x. Longer d x (run (more_left d st))) (sym (is st)) (subst (λ y. Longer d (go st) y) (sym (is (more_left d st))) (h.longer d st));
}

flow_longer : (d : ℕ) (st : State) (e : Effect) → Longer d (flow st e) (flow (more_left d st) e)
flow_longer d st (Gave v s) = refl
flow_longer d st (Returned v s) = refl
flow_longer d st Failed = refl

flow_adds : (st : State) (e : Effect) → IsPrefix st.calls (calls_in (flow st e))
flow_adds st (Gave v s) = same_prefix st.calls
flow_adds st (Returned v s) = same_prefix st.calls
flow_adds st Failed = same_prefix st.calls

over_adds : (st : State) (go : State → Flow) (o : Option Store) → Steady go → IsPrefix st.calls (calls_in (over_store st go o))
over_adds st go None h = same_prefix st.calls
over_adds st go (Some s) h = h.adds (record st { store = s })

over_longer : (d : ℕ) (st : State) (go : State → Flow) (o : Option Store) → Steady go → Longer d (over_store st go o) (over_store (more_left d st) go o)
over_longer d st go None h = refl
over_longer d st go (Some s) h = h.longer d (record st { store = s })

-- the chosen body of a match
pub body_steady : (x : ℕ) (v : Val) (go : ℕ → State → Flow) (o : Option ℕ) → ((i : ℕ) → Steady (go i)) → Steady (with_body x v go o)
body_steady x v go None h = record { adds = λ st. same_prefix st.calls; longer = λ d st. refl }
body_steady x v go (Some i) h = record { adds = λ st. over_adds st (go i) (written x v st.store) (h i); longer = λ d st. over_longer d st (go i) (written x v st.store) (h i) }

module _ (p : Program) where
  -- an operation on a value
  pub op_steady : (op : Op) (v : Val) → Steady (apply p op v)
  op_steady op v = record { adds = λ st. flow_adds st (op_meaning p op v st.store); longer = λ d st. flow_longer d st (op_meaning p op v st.store) }

  -- expressions and calls are so (lp_core), hence every task
  eval_steady : (e : Tree) → Steady (run_task p (Eval e))
  eval_steady e = record {
    adds = λ st. adds_after st.left st.calls (run p e st) (eval_falls st.left st.calls p (call_within p st.left) st.left (call_falls st.left st.calls p st.left) e st (omega arith, same_prefix st.calls));
    longer = λ d st. longer d p e st;
  }

  enter_steady : (f : ℕ) (vs : List Val) → Steady (run_task p (Enter f vs))
  enter_steady f vs = record {
    adds = λ st. subst (λ fl. IsPrefix st.calls (calls_in fl)) (run_end p f vs st)
        (adds_after st.left st.calls (run_args p (target.Function f) end vs st) (args_falls st.left st.calls p (call_within p st.left) st.left (call_falls st.left st.calls p st.left) (target.Function f) end vs st (omega arith, same_prefix st.calls)));
    longer = λ d st. call_is_longer d p f vs st;
  }

  sequence_steady : (es : Trees) (v : Val) → Steady (run_task p (Sequence es v))
  sequence_steady end v = record { adds = λ st. same_prefix st.calls; longer = λ d st. refl }
  sequence_steady (more e es) v = (let h = eval_steady (Block (more e es)) in record { adds = h.adds; longer = h.longer })

  bodies_steady : (bodies : Trees) (i : ℕ) → Steady (run_task p (Body bodies i))
  bodies_steady end i = record { adds = λ st. same_prefix st.calls; longer = λ d st. refl }
  bodies_steady (more e es) zero = (let h = eval_steady e in record { adds = h.adds; longer = h.longer })
  bodies_steady (more e es) (suc i) = (let h = bodies_steady es i in record { adds = h.adds; longer = h.longer })

  arguments_steady : (g : Target) (args : Trees) (vs : List Val) → Steady (run_task p (Arguments g args vs))
  arguments_steady (target.Function f) end vs = same_steady (run_call p f vs) (run_args p (target.Function f) end vs) (run_end p f vs) (enter_steady f vs)
  arguments_steady (target.Join j) end vs = record {
    adds = λ st. (let c = join_calls p (length st.calls) j vs in prefix_trans st.calls (st.calls ++ c) _ (c, refl) (flow_adds (record st { calls = st.calls ++ c }) (join_meaning p (length st.calls) j vs st.store)));
    longer = λ d st. flow_longer d (record st { calls = st.calls ++ join_calls p (length st.calls) j vs }) (join_meaning p (length st.calls) j vs st.store);
  }
  arguments_steady g (more e args) vs =
      let next : Val → State → Flow = λ v st. run_args p g args (vs ++ v ∷ []) st in
      same_steady (λ st. then_value (run_task p (Eval e) st) next) (run_args p g (more e args) vs) (run_more p g e args vs)
      (then_steady (run_task p (Eval e)) next (eval_steady e) (λ v. arguments_steady g args (vs ++ v ∷ [])))

  pub task_steady : (t : Task) → Steady (run_task p t)
  task_steady (Eval e) = eval_steady e
  task_steady (Sequence es v) = sequence_steady es v
  task_steady (Arguments g args vs) = arguments_steady g args vs
  task_steady (Body bodies i) = bodies_steady bodies i
  task_steady (Enter f vs) = enter_steady f vs

-- ---- fewer steps
-- so many steps are too few, or some are left
pub short_or : (b k : ℕ) → (b < k) ⊎ ((left : ℕ) × (b ≡ steps k left))
short_or b k = by (ltb b k) refl
  where
    by : (less : Bool) → ltb b k ≡ less → (b < k) ⊎ ((left : ℕ) × (b ≡ steps k left))
    by true is = inl (grind (arith, nat_tests))
    by false is = (let enough : k ≤ b = grind (arith, nat_tests) in inr (b - k, omega (arith, steps_are k (b - k))))

-- it is spent, after calls that come first among these
pub record SpentFirst (fl : Flow) (whole : List UserCall) : Type 0 where
  pub calls : List UserCall
  pub is : fl ≡ Spent calls
  pub first : IsPrefix calls whole

-- what with d steps more is spent, or leaves none
first_of_spent : (d : ℕ) (fl : Flow) (whole : List UserCall) → Longer d fl (Spent whole) → SpentFirst fl whole
first_of_spent d (Gives v st) whole h = cc
first_of_spent d (Returns v st) whole h = cc
first_of_spent d (Spent calls) whole h = record { calls = calls; is = refl; first = h }
first_of_spent d (Stuck left calls) whole h = cc

first_of_none : (d : ℕ) (c : List UserCall) (fl fl' : Flow) → 0 < d → Longer d fl fl' → After 0 c fl' → SpentFirst fl (calls_in fl')
first_of_none d c (Gives v st) fl' pos h a = (let none = subst (After 0 c) h a in absurd (omega (arith, none.0)))
first_of_none d c (Returns v st) fl' pos h a = (let none = subst (After 0 c) h a in absurd (omega (arith, none.0)))
first_of_none d c (Spent calls) fl' pos h a = record { calls = calls; is = refl; first = h }
first_of_none d c (Stuck left calls) fl' pos h a = (let none = subst (After 0 c) h a in absurd (omega (arith, none.0)))

outcome_none : (o : Outcome) → After 0 (calls_at o) (flow_of o 0)
outcome_none (Giving v m) = (omega arith, same_prefix m.calls)
outcome_none (Returning v m) = (omega arith, same_prefix m.calls)

outcome_calls : (o : Outcome) (left : ℕ) → calls_in (flow_of o left) ≡ calls_at o
outcome_calls (Giving v m) left = refl
outcome_calls (Returning v m) left = refl

module _ (go : State → Flow) (h : Steady go) (m : Moment) where
  -- with as many more as come to k
  up_to : (b k : ℕ) (fl : Flow) → b ≤ k → go (at m (steps k 0)) ≡ fl → Longer (k - b) (go (at m b)) fl
  up_to b k fl le is =
      let same : b + (k - b) ≡ steps k 0 = omega (arith, steps_are k 0) in
      subst (Longer (k - b) (go (at m b))) (ap (λ (i : ℕ). go (at m i)) same ∙ is) (h.longer (k - b) (at m b))

  -- before its end
  pub short_of_end : (k : ℕ) (o : Outcome) → ((left : ℕ) → go (at m (steps k left)) ≡ flow_of o left) → (b : ℕ) → b < k → SpentFirst (go (at m b)) (calls_at o)
  short_of_end k o runs b less =
      subst (SpentFirst (go (at m b))) (outcome_calls o 0) (first_of_none (k - b) (calls_at o) (go (at m b)) (flow_of o 0) (omega arith) (up_to b k (flow_of o 0) (omega arith) (runs 0)) (outcome_none o))

  -- what is done with the flow of a task leaves a spent one as it is
  module _ (p : Program) (k : ℕ) (t : Task) (n : Moment) (around : Flow → Flow) (strict : (calls : List UserCall) → around (Spent calls) ≡ Spent calls)
      (runs : (left : ℕ) → go (at m (steps k left)) ≡ around (run_task p t (at n left))) where
    -- before a task that without a step is spent
    short_of_task : Cut p t n 0 n.calls → (b : ℕ) → b ≤ k → SpentFirst (go (at m b)) n.calls
    short_of_task none b le = first_of_spent (k - b) (go (at m b)) n.calls (up_to b k (Spent n.calls) le (runs 0 ∙ ap around none.is ∙ strict n.calls))

  -- before a call, and before a loop
  pub short_of_call : (p : Program) (k f : ℕ) (vs : List Val) (n : Moment) (around : Flow → Flow) → ((calls : List UserCall) → around (Spent calls) ≡ Spent calls)
      → ((left : ℕ) → go (at m (steps k left)) ≡ around (run_call p f vs (at n left))) → (b : ℕ) → b ≤ k → SpentFirst (go (at m b)) n.calls
  short_of_call p k f vs n around strict runs b le = short_of_task p k (Enter f vs) n around strict runs cut_now b le

  pub short_of_loop : (p : Program) (k : ℕ) (e : Tree) (n : Moment) (around : Flow → Flow) → ((calls : List UserCall) → around (Spent calls) ≡ Spent calls)
      → ((left : ℕ) → go (at m (steps k left)) ≡ around (run p (Loop e) (at n left))) → (b : ℕ) → b ≤ k → SpentFirst (go (at m b)) n.calls
  short_of_loop p k e n around strict runs b le = short_of_task p k (Eval (Loop e)) n around strict runs cut_loop b le

-- a call does what its body does, and leaves its slots and cells
pub call_runs : (p : Program) (f : ℕ) (fn : Function) (vs : List Val) (m : Moment) (k : ℕ) (body : ℕ → Flow) → slice_get p.functions f ≡ Some fn → fn.params ≡ length vs → ((left : ℕ) → run p fn.body (at (begun fn vs m) (steps k left)) ≡ body left)
    → (left : ℕ) → run_call p f vs (at m (steps (suc k) left)) ≡ leave m.store.env (length m.store.cells) (body left)
call_runs p f fn vs m k body is many runs left =
    ap (λ o. enter p o (run p) vs (at m (steps k left))) is ∙ by (fn.params == length vs) (eq-eqb fn.params (length vs) many)
  where
    by : (b : Bool) → b ≡ true → (if b then enter_with p fn (run p) vs (at m (steps k left)) else Stuck (steps k left) m.calls) ≡ leave m.store.env (length m.store.cells) (body left)
    by true h = ap (leave m.store.env (length m.store.cells)) (runs left)
    by false h = cc
