-- A run is spent where a part of it is: one rule for each part of a construct.
use Rattle.std.proofs.Common.{◌≡◌, ℕ, suc, Bool, true, false, List, [], ◌∷◌, ◌++◌, Some, refl, ap, ◌∙◌, eq-eqb}
use Rattle.std.specs.Prelude.{slice_get, length, ◌==◌, if◌then◌else◌}
use Rattle.lp_core.specs.declared.expr.Op.{Op}
use Rattle.lp_core.specs.declared.expr.Case.{Case}
use Rattle.lp_core.specs.declared.expr.Function.{Function}
use Rattle.lp_core.specs.declared.expr.Target.{Target}
use Rattle.lp_core.specs.declared.expr.Target.TheVariants as target
use Rattle.lp_core.specs.Datum.{Unset}
use Rattle.lp_core.specs.Val.{Val}
use Rattle.lp_core.specs.Val as val
use Rattle.lp_core.specs.Tree.{Tree, Apply, If, Match, Loop, Call, Block, Trees, end, more}
use Rattle.lp_core.specs.Reading.{truth_of}
use Rattle.lp_core.specs.Store.{Store, UserCall, Program}
use Rattle.lp_core.specs.Effect.{written}
use Rattle.lp_core.specs.CaseMeaning.{chosen}
use Rattle.lp_core.specs.Flow.{State, Flow, Spent, Stuck, then_value, choose, with_body, over_store, leave}
use Rattle.lp_core.specs.Eval.{apply, count, run, run_args, run_block, run_at, enter, enter_with}
use Rattle.lp_core.proofs.Same.{run_next, run_if, run_match, run_more, run_end, run_loop}
use Rattle.lp_code_laws.specs.Ends.Ends.{Moment, over, at, steps, Task, Eval, Sequence, Arguments, Body, Enter, run_task, Giving, EndsIn}
use Rattle.lp_code_laws.specs.Ends.Calls.{begun}
use Rattle.lp_code_laws.specs.Ends.Cut.{Cut}

module _ (p : Program) where
  -- in the first part, and in what follows
  cut_in : (t u : Task) (go : Val → State → Flow) (m : Moment) (b : ℕ) (calls : List UserCall) → Cut p u m b calls → ((st : State) → run_task p t st ≡ then_value (run_task p u st) go) → Cut p t m b calls
  cut_in t u go m b calls h is = record { is = is (at m b) ∙ ap (λ f. then_value f go) h.is }

  cut_after : (t u : Task) (go : Val → State → Flow) (m n : Moment) (j b : ℕ) (v : Val) (calls : List UserCall) → EndsIn p u m j (Giving v n) → ((st : State) → run_task p t st ≡ then_value (run_task p u st) go) → go v (at n b) ≡ Spent calls → Cut p t m (steps j b) calls
  cut_after t u go m n j b v calls h is rest = record { is = is (at m (steps j b)) ∙ ap (λ f. then_value f go) (h.runs b) ∙ rest }

module _ {p : Program} where
  pub cut_apply : {op : Op} {e : Tree} {m : Moment} {b : ℕ} {calls : List UserCall} → Cut p (Eval e) m b calls → Cut p (Eval (Apply op e)) m b calls
  cut_apply {op} {e} {m} {b} {calls} h = cut_in p (Eval (Apply op e)) (Eval e) (apply p op) m b calls h (λ st. refl)

  -- in the test, and in a branch
  pub cut_test : {t x y : Tree} {m : Moment} {b : ℕ} {calls : List UserCall} → Cut p (Eval t) m b calls → Cut p (Eval (If t x y)) m b calls
  cut_test {t} {x} {y} {m} {b} {calls} h = cut_in p (Eval (If t x y)) (Eval t) (λ v st. choose (truth_of v) (run p x) (run p y) st) m b calls h (run_if p t x y)

  pub cut_true : {t x y : Tree} {m n : Moment} {j b : ℕ} {v : Val} {calls : List UserCall} → EndsIn p (Eval t) m j (Giving v n) → truth_of v ≡ Some true → Cut p (Eval x) n b calls → Cut p (Eval (If t x y)) m (steps j b) calls
  cut_true {t} {x} {y} {m} {n} {j} {b} {v} {calls} h is g =
      cut_after p (Eval (If t x y)) (Eval t) (λ v st. choose (truth_of v) (run p x) (run p y) st) m n j b v calls h (run_if p t x y) (ap (λ c. choose c (run p x) (run p y) (at n b)) is ∙ g.is)

  pub cut_false : {t x y : Tree} {m n : Moment} {j b : ℕ} {v : Val} {calls : List UserCall} → EndsIn p (Eval t) m j (Giving v n) → truth_of v ≡ Some false → Cut p (Eval y) n b calls → Cut p (Eval (If t x y)) m (steps j b) calls
  cut_false {t} {x} {y} {m} {n} {j} {b} {v} {calls} h is g =
      cut_after p (Eval (If t x y)) (Eval t) (λ v st. choose (truth_of v) (run p x) (run p y) st) m n j b v calls h (run_if p t x y) (ap (λ c. choose c (run p x) (run p y) (at n b)) is ∙ g.is)

  -- in the value that is matched, and in a body
  pub cut_value : {t : Tree} {x : ℕ} {cases : List Case} {bodies : Trees} {m : Moment} {b : ℕ} {calls : List UserCall} → Cut p (Eval t) m b calls → Cut p (Eval (Match t x cases bodies)) m b calls
  cut_value {t} {x} {cases} {bodies} {m} {b} {calls} h =
      cut_in p (Eval (Match t x cases bodies)) (Eval t) (λ v st. with_body x v (run_at p bodies) (chosen p cases (count bodies) v) st) m b calls h (run_match p t x cases bodies)

  pub cut_match : {t : Tree} {x : ℕ} {cases : List Case} {bodies : Trees} {m n : Moment} {j b : ℕ} {v : Val} {i : ℕ} {s : Store} {calls : List UserCall} → EndsIn p (Eval t) m j (Giving v n) → chosen p cases (count bodies) v ≡ Some i → written x v n.store ≡ Some s → Cut p (Body bodies i) (over s n) b calls → Cut p (Eval (Match t x cases bodies)) m (steps j b) calls
  cut_match {t} {x} {cases} {bodies} {m} {n} {j} {b} {v} {i} {s} {calls} h is put g =
      cut_after p (Eval (Match t x cases bodies)) (Eval t) (λ v st. with_body x v (run_at p bodies) (chosen p cases (count bodies) v) st) m n j b v calls h (run_match p t x cases bodies)
      (ap (λ c. with_body x v (run_at p bodies) c (at n b)) is ∙ ap (λ c. over_store (at n b) (run_at p bodies i) c) put ∙ g.is)

  pub cut_first : {e : Tree} {es : Trees} {m : Moment} {b : ℕ} {calls : List UserCall} → Cut p (Eval e) m b calls → Cut p (Body (more e es) 0) m b calls
  cut_first h = record { is = h.is }

  pub cut_next : {e : Tree} {es : Trees} {i : ℕ} {m : Moment} {b : ℕ} {calls : List UserCall} → Cut p (Body es i) m b calls → Cut p (Body (more e es) (suc i)) m b calls
  cut_next h = record { is = h.is }

  -- in a line of a block, and behind it
  pub cut_block : {es : Trees} {m : Moment} {b : ℕ} {calls : List UserCall} → Cut p (Sequence es (val.Plain Unset)) m b calls → Cut p (Eval (Block es)) m b calls
  cut_block h = record { is = h.is }

  pub cut_line : {e : Tree} {es : Trees} {m : Moment} {b : ℕ} {v : Val} {calls : List UserCall} → Cut p (Eval e) m b calls → Cut p (Sequence (more e es) v) m b calls
  cut_line {e} {es} {m} {b} {v} {calls} h = cut_in p (Sequence (more e es) v) (Eval e) (λ w st. run_block p es w st) m b calls h (run_next p e es v)

  pub cut_behind : {e : Tree} {es : Trees} {m n : Moment} {j b : ℕ} {v w : Val} {calls : List UserCall} → EndsIn p (Eval e) m j (Giving w n) → Cut p (Sequence es w) n b calls → Cut p (Sequence (more e es) v) m (steps j b) calls
  cut_behind {e} {es} {m} {n} {j} {b} {v} {w} {calls} h g = cut_after p (Sequence (more e es) v) (Eval e) (λ w st. run_block p es w st) m n j b w calls h (run_next p e es v) g.is

  -- in an argument, behind it, and in the call
  pub cut_call : {g : Target} {args : Trees} {m : Moment} {b : ℕ} {calls : List UserCall} → Cut p (Arguments g args []) m b calls → Cut p (Eval (Call g args)) m b calls
  cut_call h = record { is = h.is }

  pub cut_argument : {g : Target} {e : Tree} {args : Trees} {vs : List Val} {m : Moment} {b : ℕ} {calls : List UserCall} → Cut p (Eval e) m b calls → Cut p (Arguments g (more e args) vs) m b calls
  cut_argument {g} {e} {args} {vs} {m} {b} {calls} h = cut_in p (Arguments g (more e args) vs) (Eval e) (λ v st. run_args p g args (vs ++ v ∷ []) st) m b calls h (run_more p g e args vs)

  pub cut_arguments : {g : Target} {e : Tree} {args : Trees} {vs : List Val} {m n : Moment} {j b : ℕ} {v : Val} {calls : List UserCall} → EndsIn p (Eval e) m j (Giving v n) → Cut p (Arguments g args (vs ++ v ∷ [])) n b calls → Cut p (Arguments g (more e args) vs) m (steps j b) calls
  cut_arguments {g} {e} {args} {vs} {m} {n} {j} {b} {v} {calls} h r =
      cut_after p (Arguments g (more e args) vs) (Eval e) (λ v st. run_args p g args (vs ++ v ∷ []) st) m n j b v calls h (run_more p g e args vs) r.is

  pub cut_called : {f : ℕ} {vs : List Val} {m : Moment} {b : ℕ} {calls : List UserCall} → Cut p (Enter f vs) m b calls → Cut p (Arguments (target.Function f) end vs) m b calls
  cut_called {f} {vs} {m} {b} h = record { is = run_end p f vs (at m b) ∙ h.is }

  -- no step is left for a call, and in its body
  pub cut_now : {f : ℕ} {vs : List Val} {m : Moment} → Cut p (Enter f vs) m 0 m.calls
  cut_now = record { is = refl }

  entered_cut : (c : Bool) (fn : Function) (vs : List Val) (m : Moment) (b : ℕ) (calls : List UserCall) → c ≡ true → Cut p (Eval fn.body) (begun fn vs m) b calls → (if c then enter_with p fn (run p) vs (at m b) else Stuck b m.calls) ≡ Spent calls
  entered_cut true fn vs m b calls is h = ap (leave m.store.env (length m.store.cells)) h.is
  entered_cut false fn vs m b calls is h = cc

  pub cut_enter : {f : ℕ} {fn : Function} {vs : List Val} {m : Moment} {b : ℕ} {calls : List UserCall} → slice_get p.functions f ≡ Some fn → fn.params ≡ length vs → Cut p (Eval fn.body) (begun fn vs m) b calls → Cut p (Enter f vs) m (suc b) calls
  cut_enter {f} {fn} {vs} {m} {b} {calls} is many h =
      record { is = ap (λ c. enter p c (run p) vs (at m b)) is ∙ entered_cut (fn.params == length vs) fn vs m b calls (eq-eqb fn.params (length vs) many) h }

  -- no step is left for a turn, in the turn, and behind it
  pub cut_loop : {e : Tree} {m : Moment} → Cut p (Eval (Loop e)) m 0 m.calls
  cut_loop {e} {m} = record { is = run_loop p e (at m 0) }

  pub cut_turn : {e : Tree} {m : Moment} {b : ℕ} {calls : List UserCall} → Cut p (Eval e) m b calls → Cut p (Eval (Loop e)) m (suc b) calls
  cut_turn {e} {m} {b} h = record { is = run_loop p e (at m (suc b)) ∙ ap (λ f. then_value f (λ v. run p (Loop e))) h.is }

  pub cut_turns : {e : Tree} {m n : Moment} {j b : ℕ} {v : Val} {calls : List UserCall} → EndsIn p (Eval e) m j (Giving v n) → Cut p (Eval (Loop e)) n b calls → Cut p (Eval (Loop e)) m (suc (steps j b)) calls
  cut_turns {e} {m} {n} {j} {b} h g = record { is = run_loop p e (at m (suc (steps j b))) ∙ ap (λ f. then_value f (λ v. run p (Loop e))) (h.runs b) ∙ g.is }
