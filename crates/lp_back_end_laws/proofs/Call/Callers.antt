-- Rules for what leads to a task or to a call.
use Rattle.std.proofs.Common.{◌≡◌, ℕ, suc, List, [], ◌∷◌, ◌++◌, Some, refl, sym, ap, ◌∙◌, subst}
use Rattle.std.specs.Prelude.{slice_get}
use Rattle.lp_core.specs.declared.expr.Case.{Case}
use Rattle.lp_core.specs.declared.expr.Op.{Op}
use Rattle.lp_core.specs.declared.expr.Target.{Target}
use Rattle.lp_core.specs.declared.expr.Target.TheVariants as target
use Rattle.lp_core.specs.Datum.{Unset}
use Rattle.lp_core.specs.Val.{Val, Plain}
use Rattle.lp_core.specs.Effect.{Gave, written}
use Rattle.lp_core.specs.OpMeaning.{op_meaning}
use Rattle.lp_core.specs.Tree.{Tree, Trees, Apply, Match, Loop, Call, Block, end, more, trees_of}
use Rattle.lp_core.specs.Store.{Store, Program}
use Rattle.lp_core.specs.Flow.{State, Flow, flow, Gives, Returns, Spent, Stuck, then_value, with_body, over_store}
use Rattle.lp_core.specs.CaseMeaning.{chosen}
use Rattle.lp_core.specs.Eval.{apply, count, run, run_args, run_block, run_at, run_call}
use Rattle.lp_core.proofs.Same.{run_next, run_match, run_more, run_end, run_loop}
use Rattle.lp_core.proofs.Bodies.{body_there}
use Rattle.lp_code_laws.specs.Ends.Ends.{Moment, over, at, steps, Task, Eval, Sequence, Arguments, Body, run_task, Outcome, Giving, Returning, EndsIn}
use Rattle.lp_code_laws.proofs.Ends.Rules.{parted}
use Rattle.lp_code_laws.proofs.Ends.Blocks.{run_append}
use Rattle.lp_back_end_laws.specs.Call.Stretches.{Rest, Nothing, Applied, Matched, Behind, Turning, go_on, LeadsTo, CallsIn, GoesOn, GoesTo, Passes, PassesTo}

-- nothing follows on what a flow gives, and what follows on what follows
then_gives : (fl : Flow) → then_value fl (λ v st. Gives v st) ≡ fl
then_gives (Gives v st) = refl
then_gives (Returns v st) = refl
then_gives (Spent calls) = refl
then_gives (Stuck left calls) = refl

then_then : (fl : Flow) (go next : Val → State → Flow) → then_value (then_value fl go) next ≡ then_value fl (λ v st. then_value (go v st) next)
then_then (Gives v st) go next = refl
then_then (Returns v st) go next = refl
then_then (Spent calls) go next = refl
then_then (Stuck left calls) go next = refl

module _ {p : Program} where
  -- ---- tasks that lead to others
  pub leads_ends : {t u : Task} {m n : Moment} {j k : ℕ} {o : Outcome} → LeadsTo p t m j u n → EndsIn p u n k o → EndsIn p t m (steps j k) o
  leads_ends {t} {m = m} {j = j} {k = k} h g = record { runs = λ left. parted p t m j k left ∙ h.runs (steps k left) ∙ g.runs left }

  pub leads_calls : {t u : Task} {m n l : Moment} {j k f : ℕ} {vs : List Val} {rest : Rest} → LeadsTo p t m j u n → CallsIn p u n k f vs l rest → CallsIn p t m (steps j k) f vs l rest
  leads_calls {t} {m = m} {j = j} {k = k} h g = record { runs = λ left. parted p t m j k left ∙ h.runs (steps k left) ∙ g.runs left }

  pub leads_both : {t u w : Task} {m n l : Moment} {j k : ℕ} → LeadsTo p t m j u n → LeadsTo p u n k w l → LeadsTo p t m (steps j k) w l
  leads_both {t} {m = m} {j = j} {k = k} h g = record { runs = λ left. parted p t m j k left ∙ h.runs (steps k left) ∙ g.runs left }

  -- the number of steps written in another way
  pub leads_in : {t u : Task} {m n : Moment} {j k : ℕ} → LeadsTo p t m j u n → j ≡ k → LeadsTo p t m k u n
  leads_in {t} {u} {m} {n} h is = subst (λ (i : ℕ). LeadsTo p t m i u n) is h

  -- the last line of a block, and a line behind others
  pub leads_last : {e : Tree} {m : Moment} {v : Val} → LeadsTo p (Sequence (more e end) v) m 0 (Eval e) m
  leads_last {e} {m} {v} = record { runs = λ left. run_next p e end v (at m left) ∙ then_gives (run p e (at m left)) }

  pub leads_append : (a b : List Tree) {m n : Moment} {k : ℕ} {v w : Val} → EndsIn p (Sequence (trees_of a) v) m k (Giving w n) → LeadsTo p (Sequence (trees_of (a ++ b)) v) m k (Sequence (trees_of b) w) n
  leads_append a b {m} {n} {k} {v} {w} h = record { runs = λ left. run_append p a b v (at m (steps k left)) ∙ ap (λ fl. then_value fl (λ w st. run_block p (trees_of b) w st)) (h.runs left) }

  pub leads_next : {e : Tree} {es : Trees} {m n : Moment} {k : ℕ} {v w : Val} → EndsIn p (Eval e) m k (Giving w n) → LeadsTo p (Sequence (more e es) v) m k (Sequence es w) n
  leads_next {e} {es} {m} {n} {k} {v} {w} h = record { runs = λ left. run_next p e es v (at m (steps k left)) ∙ ap (λ fl. then_value fl (λ w st. run_block p es w st)) (h.runs left) }

  pub leads_block : {es : Trees} {m : Moment} → LeadsTo p (Eval (Block es)) m 0 (Sequence es (Plain Unset)) m
  leads_block = record { runs = λ left. refl }

  -- the chosen body of a match
  pub leads_match : {t : Tree} {x : ℕ} {cases : List Case} {bodies : Trees} {m n : Moment} {k : ℕ} {v : Val} {i : ℕ} {s : Store} → EndsIn p (Eval t) m k (Giving v n) → chosen p cases (count bodies) v ≡ Some i → written x v n.store ≡ Some s → LeadsTo p (Eval (Match t x cases bodies)) m k (Body bodies i) (over s n)
  leads_match {t} {x} {cases} {bodies} {m} {n} {k} {v} {i} {s} h is put = record {
    runs = λ left.
        run_match p t x cases bodies (at m (steps k left))
        ∙ ap (λ fl. then_value fl (λ v st. with_body x v (run_at p bodies) (chosen p cases (count bodies) v) st)) (h.runs left)
        ∙ ap (λ c. with_body x v (run_at p bodies) c (at n left)) is
        ∙ ap (λ c. over_store (at n left) (run_at p bodies i) c) put;
  }

  pub leads_body : (es : List Tree) {i : ℕ} {e : Tree} {m : Moment} → slice_get es i ≡ Some e → LeadsTo p (Body (trees_of es) i) m 0 (Eval e) m
  leads_body es {i} {e} {m} is = record { runs = λ left. sym (body_there p es i e (at m left) is) }

  -- the next argument
  pub leads_argument : {g : Target} {e : Tree} {args : Trees} {vs : List Val} {m n : Moment} {k : ℕ} {v : Val} → EndsIn p (Eval e) m k (Giving v n) → LeadsTo p (Arguments g (more e args) vs) m k (Arguments g args (vs ++ v ∷ [])) n
  leads_argument {g} {e} {args} {vs} {m} {n} {k} {v} h = record { runs = λ left. run_more p g e args vs (at m (steps k left)) ∙ ap (λ fl. then_value fl (λ v st. run_args p g args (vs ++ v ∷ []) st)) (h.runs left) }

  pub leads_call : {g : Target} {args : Trees} {m : Moment} → LeadsTo p (Eval (Call g args)) m 0 (Arguments g args []) m
  leads_call = record { runs = λ left. refl }

  -- ---- tasks that call
  pub calls_now : {f : ℕ} {vs : List Val} {m : Moment} → CallsIn p (Arguments (target.Function f) end vs) m 0 f vs m Nothing
  calls_now {f} {vs} {m} = record { runs = λ left. run_end p f vs (at m left) ∙ sym (then_gives (run_call p f vs (at m left))) }

  -- what follows on the task that calls
  calls_then : (t u : Task) (rest after : Rest) (next : Val → State → Flow) {m n : Moment} {k f : ℕ} {vs : List Val} → CallsIn p u m k f vs n rest → ((st : State) → run_task p t st ≡ then_value (run_task p u st) next)
      → ((fl : Flow) → then_value fl (λ v st. then_value (go_on p rest v st) next) ≡ then_value fl (go_on p after)) → CallsIn p t m k f vs n after
  calls_then t u rest after next {m} {n} {k} {f} {vs} h is same = record { runs = λ left. is (at m (steps k left)) ∙ ap (λ fl. then_value fl next) (h.runs left) ∙ then_then (run_call p f vs (at n left)) (go_on p rest) next ∙ same (run_call p f vs (at n left)) }

  pub calls_apply : {op : Op} {e : Tree} {m n : Moment} {k f : ℕ} {vs : List Val} {rest : Rest} → CallsIn p (Eval e) m k f vs n rest → CallsIn p (Eval (Apply op e)) m k f vs n (Applied op rest)
  calls_apply {op} {e} {rest = rest} h = calls_then (Eval (Apply op e)) (Eval e) rest (Applied op rest) (apply p op) h (λ st. refl) (λ fl. refl)

  pub calls_match : {t : Tree} {x : ℕ} {cases : List Case} {bodies : Trees} {m n : Moment} {k f : ℕ} {vs : List Val} {rest : Rest} → CallsIn p (Eval t) m k f vs n rest → CallsIn p (Eval (Match t x cases bodies)) m k f vs n (Matched x cases bodies rest)
  calls_match {t} {x} {cases} {bodies} {rest = rest} h = calls_then (Eval (Match t x cases bodies)) (Eval t) rest (Matched x cases bodies rest) (λ w st'. with_body x w (run_at p bodies) (chosen p cases (count bodies) w) st') h (run_match p t x cases bodies) (λ fl. refl)

  pub calls_line : {e : Tree} {es : Trees} {u : Val} {m n : Moment} {k f : ℕ} {vs : List Val} {rest : Rest} → CallsIn p (Eval e) m k f vs n rest → CallsIn p (Sequence (more e es) u) m k f vs n (Behind es rest)
  calls_line {e} {es} {u} {rest = rest} h = calls_then (Sequence (more e es) u) (Eval e) rest (Behind es rest) (λ w st'. run_block p es w st') h (run_next p e es u) (λ fl. refl)

  pub calls_lines : (a b : List Tree) {u : Val} {m n : Moment} {k f : ℕ} {vs : List Val} {rest : Rest} → CallsIn p (Sequence (trees_of a) u) m k f vs n rest → CallsIn p (Sequence (trees_of (a ++ b)) u) m k f vs n (Behind (trees_of b) rest)
  calls_lines a b {u} {rest = rest} h = calls_then (Sequence (trees_of (a ++ b)) u) (Sequence (trees_of a) u) rest (Behind (trees_of b) rest) (λ w st'. run_block p (trees_of b) w st') h (run_append p a b u) (λ fl. refl)

  -- a turn that calls, and the loop again
  pub calls_turn : {e : Tree} {m n : Moment} {k f : ℕ} {vs : List Val} {rest : Rest} → CallsIn p (Eval e) m k f vs n rest → CallsIn p (Eval (Loop e)) m (suc k) f vs n (Turning e rest)
  calls_turn {e} {m} {n} {k} {f} {vs} {rest} h = record {
    runs = λ left.
        run_loop p e (at m (suc (steps k left)))
        ∙ ap (λ fl. then_value fl (λ w st'. run p (Loop e) st')) (h.runs left)
        ∙ then_then (run_call p f vs (at n left)) (go_on p rest) (λ w st'. run p (Loop e) st');
  }

  -- a turn that gives a value, and the loop again
  pub leads_turn : {e : Tree} {m n : Moment} {k : ℕ} {v : Val} → EndsIn p (Eval e) m k (Giving v n) → LeadsTo p (Eval (Loop e)) m (suc k) (Eval (Loop e)) n
  leads_turn {e} {m} {n} {k} {v} h = record { runs = λ left. run_loop p e (at m (suc (steps k left))) ∙ ap (λ fl. then_value fl (λ w st'. run p (Loop e) st')) (h.runs left) }

  -- ---- from the call on
  pub goes_now : {v : Val} {m : Moment} → GoesOn p Nothing v m 0 (Giving v m)
  goes_now = record { runs = λ left. refl }

  pub goes_apply : {op : Op} {rest : Rest} {v w u : Val} {m n : Moment} {s : Store} → GoesOn p rest v m 0 (Giving w n) → op_meaning p op w n.store ≡ Gave u s → GoesOn p (Applied op rest) v m 0 (Giving u (over s n))
  goes_apply {op} {n = n} h is = record { runs = λ left. ap (λ fl. then_value fl (apply p op)) (h.runs left) ∙ ap (flow (at n left)) is }

  pub goes_match : {x : ℕ} {cases : List Case} {bodies : Trees} {rest : Rest} {v w : Val} {m n : Moment} {k i : ℕ} {s : Store} {o : Outcome} → GoesOn p rest v m 0 (Giving w n) → chosen p cases (count bodies) w ≡ Some i → written x w n.store ≡ Some s → EndsIn p (Body bodies i) (over s n) k o → GoesOn p (Matched x cases bodies rest) v m k o
  goes_match {x} {cases} {bodies} {w = w} {n = n} {k = k} {i = i} h is put g = record {
    runs = λ left.
        ap (λ fl. then_value fl (λ w st'. with_body x w (run_at p bodies) (chosen p cases (count bodies) w) st')) (h.runs (steps k left))
        ∙ ap (λ c. with_body x w (run_at p bodies) c (at n (steps k left))) is
        ∙ ap (λ c. over_store (at n (steps k left)) (run_at p bodies i) c) put
        ∙ g.runs left;
  }

  -- the lines behind it
  pub goes_behind : {lines : Trees} {rest : Rest} {v w : Val} {m n : Moment} {k : ℕ} {o : Outcome} → GoesOn p rest v m 0 (Giving w n) → EndsIn p (Sequence lines w) n k o → GoesOn p (Behind lines rest) v m k o
  goes_behind {lines} {k = k} h g = record { runs = λ left. ap (λ fl. then_value fl (λ w st'. run_block p lines w st')) (h.runs (steps k left)) ∙ g.runs left }

  pub goes_to_lines : {lines : Trees} {rest : Rest} {v w : Val} {m n : Moment} → GoesOn p rest v m 0 (Giving w n) → GoesTo p (Behind lines rest) v m 0 (Sequence lines w) n
  goes_to_lines {lines} h = record { runs = λ left. ap (λ fl. then_value fl (λ w st'. run_block p lines w st')) (h.runs left) }

  pub goes_to_loop : {turn : Tree} {rest : Rest} {v w : Val} {m n : Moment} → GoesOn p rest v m 0 (Giving w n) → GoesTo p (Turning turn rest) v m 0 (Eval (Loop turn)) n
  goes_to_loop {turn} h = record { runs = λ left. ap (λ fl. then_value fl (λ w st'. run p (Loop turn) st')) (h.runs left) }

  -- a return leaves all of them
  pub left_apply : {op : Op} {rest : Rest} {v w : Val} {m n : Moment} {k : ℕ} → GoesOn p rest v m k (Returning w n) → GoesOn p (Applied op rest) v m k (Returning w n)
  left_apply {op} h = record { runs = λ left. ap (λ fl. then_value fl (apply p op)) (h.runs left) }

  pub left_match : {x : ℕ} {cases : List Case} {bodies : Trees} {rest : Rest} {v w : Val} {m n : Moment} {k : ℕ} → GoesOn p rest v m k (Returning w n) → GoesOn p (Matched x cases bodies rest) v m k (Returning w n)
  left_match {x} {cases} {bodies} h = record { runs = λ left. ap (λ fl. then_value fl (λ w st'. with_body x w (run_at p bodies) (chosen p cases (count bodies) w) st')) (h.runs left) }

  pub left_behind : {lines : Trees} {rest : Rest} {v w : Val} {m n : Moment} {k : ℕ} → GoesOn p rest v m k (Returning w n) → GoesOn p (Behind lines rest) v m k (Returning w n)
  left_behind {lines} h = record { runs = λ left. ap (λ fl. then_value fl (λ w st'. run_block p lines w st')) (h.runs left) }

  pub left_turn : {turn : Tree} {rest : Rest} {v w : Val} {m n : Moment} {k : ℕ} → GoesOn p rest v m k (Returning w n) → GoesOn p (Turning turn rest) v m k (Returning w n)
  left_turn {turn} h = record { runs = λ left. ap (λ fl. then_value fl (λ w st'. run p (Loop turn) st')) (h.runs left) }

  -- ---- what a task passes on that leads to another
  pub passes_lead : {t u : Task} {m n l : Moment} {j k f : ℕ} {vs : List Val} {Back : Moment → Type 0} {good bad : Val → Moment → Outcome} → LeadsTo p t m j u n → Passes p u n k f vs l Back good bad → Passes p t m (steps j k) f vs l Back good bad
  passes_lead h g = record { rest = g.rest; calls = leads_calls h g.calls; success = g.success; failure = g.failure }

  pub to_lead : {t u : Task} {m n l : Moment} {j k f : ℕ} {vs : List Val} {Back : Moment → Type 0} {next : Val → Moment → Task} {there : Val → Moment → Moment} {bad : Val → Moment → Outcome} → LeadsTo p t m j u n → PassesTo p u n k f vs l Back next there bad → PassesTo p t m (steps j k) f vs l Back next there bad
  to_lead h g = record { rest = g.rest; calls = leads_calls h g.calls; success = g.success; failure = g.failure }

  -- a line that passes on: a return leaves the lines behind it, a value goes on with them
  pub line_returns : {e : Tree} {es : Trees} {u : Val} {m n : Moment} {k f : ℕ} {vs : List Val} {Back : Moment → Type 0} {v1 v2 : Val → Moment → Val} {m1 m2 : Val → Moment → Moment} → Passes p (Eval e) m k f vs n Back (λ v b. Returning (v1 v b) (m1 v b)) (λ v b. Returning (v2 v b) (m2 v b))
      → Passes p (Sequence (more e es) u) m k f vs n Back (λ v b. Returning (v1 v b) (m1 v b)) (λ v b. Returning (v2 v b) (m2 v b))
  line_returns {es = es} h = record { rest = Behind es h.rest; calls = calls_line h.calls; success = λ v b set back. left_behind (h.success v b set back); failure = λ v b set back. left_behind (h.failure v b set back) }

  pub line_goes_on : {e : Tree} {es : Trees} {u : Val} {m n : Moment} {k f : ℕ} {vs : List Val} {Back : Moment → Type 0} {v1 v2 : Val → Moment → Val} {m1 m2 : Val → Moment → Moment} → Passes p (Eval e) m k f vs n Back (λ v b. Giving (v1 v b) (m1 v b)) (λ v b. Returning (v2 v b) (m2 v b))
      → PassesTo p (Sequence (more e es) u) m k f vs n Back (λ v b. Sequence es (v1 v b)) m1 (λ v b. Returning (v2 v b) (m2 v b))
  line_goes_on {es = es} h = record { rest = Behind es h.rest; calls = calls_line h.calls; success = λ v b set back. goes_to_lines (h.success v b set back); failure = λ v b set back. left_behind (h.failure v b set back) }

  -- a turn that passes on: a return leaves the loop, a value goes on with it
  pub turn_returns : {e : Tree} {m n : Moment} {k f : ℕ} {vs : List Val} {Back : Moment → Type 0} {v1 v2 : Val → Moment → Val} {m1 m2 : Val → Moment → Moment} → Passes p (Eval e) m k f vs n Back (λ v b. Returning (v1 v b) (m1 v b)) (λ v b. Returning (v2 v b) (m2 v b))
      → Passes p (Eval (Loop e)) m (suc k) f vs n Back (λ v b. Returning (v1 v b) (m1 v b)) (λ v b. Returning (v2 v b) (m2 v b))
  turn_returns {e} h = record { rest = Turning e h.rest; calls = calls_turn h.calls; success = λ v b set back. left_turn (h.success v b set back); failure = λ v b set back. left_turn (h.failure v b set back) }

  pub turn_goes_on : {e : Tree} {m n : Moment} {k f : ℕ} {vs : List Val} {Back : Moment → Type 0} {v1 v2 : Val → Moment → Val} {m1 m2 : Val → Moment → Moment} → Passes p (Eval e) m k f vs n Back (λ v b. Giving (v1 v b) (m1 v b)) (λ v b. Returning (v2 v b) (m2 v b))
      → PassesTo p (Eval (Loop e)) m (suc k) f vs n Back (λ v b. Eval (Loop e)) m1 (λ v b. Returning (v2 v b) (m2 v b))
  turn_goes_on {e} h = record { rest = Turning e h.rest; calls = calls_turn h.calls; success = λ v b set back. goes_to_loop (h.success v b set back); failure = λ v b set back. left_turn (h.failure v b set back) }
