-- With any number of steps a stretch of a state function is spent on the way, or it comes to its end with the others left.
use Rattle.std.proofs.Common.{◌≡◌, ℕ, suc, ◌<◌, List, Some, refl, ap, ◌∙◌, ⊎_elim, arith}
use Rattle.std.specs.Prelude.{slice_get, length}
use Rattle.lp_core.specs.declared.expr.Function.{Function}
use Rattle.lp_core.specs.Val.{Val}
use Rattle.lp_core.specs.Tree.{Tree, Loop}
use Rattle.lp_core.specs.Store.{UserCall, Program}
use Rattle.lp_core.specs.CaseMeaning.{chosen}
use Rattle.lp_core.specs.Flow.{State, Flow, then_value, leave}
use Rattle.lp_core.specs.Eval.{count, run, run_call}
use Rattle.lp_core.proofs.Falls.{same_prefix}
use Rattle.lp_code_laws.specs.Ends.Ends.{Moment, at, steps, Task, Eval, Sequence, Body, Enter, run_task, Outcome, flow_of, EndsIn}
use Rattle.lp_code_laws.specs.Ends.Calls.{begun}
use Rattle.lp_code_laws.specs.Ends.Spent.{calls_at}
use Rattle.lp_back_end_laws.specs.Call.Stretches.{Rest, Nothing, Applied, Matched, Behind, Turning, go_on, LeadsTo, CallsIn, GoesOn}
use Rattle.lp_back_end_laws.proofs.Call.Shortage.{Steady, then_steady, body_steady, op_steady, task_steady, short_or, SpentFirst, short_of_end, short_of_call, short_of_loop, call_runs}

-- what is left of the code around a call does the same with more steps
module _ (p : Program) where
  pub rest_steady : (rest : Rest) (v : Val) → Steady (go_on p rest v)
  rest_steady Nothing v = record { adds = λ st. same_prefix st.calls; longer = λ d st. refl }
  rest_steady (Applied op inner) v = then_steady (go_on p inner v) _ (rest_steady inner v) (λ w. op_steady p op w)
  rest_steady (Matched slot cases bodies inner) v = then_steady (go_on p inner v) _ (rest_steady inner v) (λ w. body_steady slot w _ (chosen p cases (count bodies) w) (λ i. task_steady p (Body bodies i)))
  rest_steady (Behind lines inner) v = then_steady (go_on p inner v) _ (rest_steady inner v) (λ w. task_steady p (Sequence lines w))
  rest_steady (Turning turn inner) v = then_steady (go_on p inner v) _ (rest_steady inner v) (λ w. task_steady p (Eval (Loop turn)))

-- a run with b steps: they are too few for a place k steps on, where these calls are made, or it goes on there with the others
pub data Settled (fl : Flow) (b k : ℕ) (calls : List UserCall) (next : ℕ → Flow) : Type 0 where
  Short : b < k → SpentFirst fl calls → Settled fl b k calls next
  Comes : (left : ℕ) → b ≡ steps k left → fl ≡ next left → Settled fl b k calls next

settles : (go : State → Flow) (m : Moment) (k : ℕ) (calls : List UserCall) (next : ℕ → Flow) → ((left : ℕ) → go (at m (steps k left)) ≡ next left) → ((b : ℕ) → b < k → SpentFirst (go (at m b)) calls) → (b : ℕ) → Settled (go (at m b)) b k calls next
settles go m k calls next runs short b =
    ⊎_elim (λ (less : b < k). Short less (short b less)) (λ (h : (left : ℕ) × (b ≡ steps k left)). Comes h.0 h.1 (ap (λ (i : ℕ). go (at m i)) h.1 ∙ runs h.0)) (short_or b k)

module _ {p : Program} where
  -- a stretch to an end
  pub ends_settle : {t : Task} {m : Moment} {k : ℕ} {o : Outcome} → EndsIn p t m k o → (b : ℕ) → Settled (run_task p t (at m b)) b k (calls_at o) (flow_of o)
  ends_settle {t} {m} {k} {o} h b = settles (run_task p t) m k (calls_at o) (flow_of o) h.runs (short_of_end (run_task p t) (task_steady p t) m k o h.runs) b

  pub rest_settles : {rest : Rest} {v : Val} {m : Moment} {k : ℕ} {o : Outcome} → GoesOn p rest v m k o → (b : ℕ) → Settled (go_on p rest v (at m b)) b k (calls_at o) (flow_of o)
  rest_settles {rest} {v} {m} {k} {o} h b = settles (go_on p rest v) m k (calls_at o) (flow_of o) h.runs (short_of_end (go_on p rest v) (rest_steady p rest v) m k o h.runs) b

  -- to a call
  pub calls_settle : {t : Task} {m n : Moment} {k f : ℕ} {vs : List Val} {rest : Rest} → CallsIn p t m k f vs n rest → (b : ℕ) → Settled (run_task p t (at m b)) b k n.calls (λ left. then_value (run_call p f vs (at n left)) (go_on p rest))
  calls_settle {t} {m} {n} {k} {f} {vs} {rest} h b =
      settles (run_task p t) m k n.calls _ h.runs (λ b less. short_of_call (run_task p t) (task_steady p t) m p k f vs n (λ fl. then_value fl (go_on p rest)) (λ calls. refl) h.runs b (omega arith)) b

  -- to a loop
  pub loop_settles : {t : Task} {m n : Moment} {k : ℕ} {turn : Tree} → LeadsTo p t m k (Eval (Loop turn)) n → (b : ℕ) → Settled (run_task p t (at m b)) b k n.calls (λ left. run p (Loop turn) (at n left))
  loop_settles {t} {m} {n} {k} {turn} h b =
      settles (run_task p t) m k n.calls _ h.runs (λ b less. short_of_loop (run_task p t) (task_steady p t) m p k turn n (λ fl. fl) (λ calls. refl) h.runs b (omega arith)) b

-- the call of a function whose body comes to a call, or to a loop
module _ (p : Program) (f : ℕ) (fn : Function) (vs : List Val) (m n : Moment) (k : ℕ) (is : slice_get p.functions f ≡ Some fn) (many : fn.params ≡ length vs) where
  abbrev left_from : Flow → Flow
  left_from fl = leave m.store.env (length m.store.cells) fl

  pub entered_calls : (g : ℕ) (ws : List Val) (rest : Rest) → CallsIn p (Eval fn.body) (begun fn vs m) k g ws n rest
      → (b : ℕ) → Settled (run_call p f vs (at m b)) b (suc k) n.calls (λ left. left_from (then_value (run_call p g ws (at n left)) (go_on p rest)))
  entered_calls g ws rest h b =
      let runs = call_runs p f fn vs m k (λ left. then_value (run_call p g ws (at n left)) (go_on p rest)) is many h.runs in
      settles (run_task p (Enter f vs)) m (suc k) n.calls _ runs
      (λ b less. short_of_call (run_task p (Enter f vs)) (task_steady p (Enter f vs)) m p (suc k) g ws n (λ fl. left_from (then_value fl (go_on p rest))) (λ calls. refl) runs b (omega arith)) b

  pub entered_loop : (turn : Tree) → LeadsTo p (Eval fn.body) (begun fn vs m) k (Eval (Loop turn)) n → (b : ℕ) → Settled (run_call p f vs (at m b)) b (suc k) n.calls (λ left. left_from (run p (Loop turn) (at n left)))
  entered_loop turn h b =
      let runs = call_runs p f fn vs m k (λ left. run p (Loop turn) (at n left)) is many h.runs in
      settles (run_task p (Enter f vs)) m (suc k) n.calls _ runs
      (λ b less. short_of_loop (run_task p (Enter f vs)) (task_steady p (Enter f vs)) m p (suc k) turn n left_from (λ calls. refl) runs b (omega arith)) b
