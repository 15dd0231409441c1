-- What the law of more steps tells: other budgets.
use Rattle.std.proofs.Common.{◌≡◌, ℕ, ◌+◌, ◌-◌, ◌<◌, ◌≤◌, List, refl, sym, ap, ◌∙◌, arith, subst}
use Rattle.lp_core.specs.Val.{Val}
use Rattle.lp_core.specs.Tree.{Tree}
use Rattle.lp_core.specs.Store.{Program}
use Rattle.lp_core.specs.Flow.{Flow, Gives, Returns, Spent, Stuck}
use Rattle.lp_core.specs.Eval.{run, run_call}
use Rattle.lp_core.specs.Prefix.{IsPrefix}
use Rattle.lp_core.specs.Budget.{calls_in, Longer}
use Rattle.lp_core.proofs.Longer.{longer, call_is_longer}
use Rattle.lp_code_laws.specs.Ends.Ends.{Moment, at, steps, Task, Eval, Enter, run_task, Outcome, Giving, Returning, flow_of, EndsIn}
use Rattle.lp_code_laws.specs.Ends.Spent.{SpentBefore, calls_at}
use Rattle.lp_code_laws.proofs.Ends.Steps.{steps_are}

-- how many steps a flow leaves
abbrev left_in : Flow → ℕ
left_in (Gives v st) = st.left
left_in (Returns v st) = st.left
left_in (Spent calls) = 0
left_in (Stuck left calls) = left

outcome_left : (o : Outcome) (left : ℕ) → left_in (flow_of o left) ≡ left
outcome_left (Giving v m) left = refl
outcome_left (Returning v m) left = refl

outcome_calls : (o : Outcome) (left : ℕ) → calls_in (flow_of o left) ≡ calls_at o
outcome_calls (Giving v m) left = refl
outcome_calls (Returning v m) left = refl

-- a flow that with d steps more is an outcome with none left over
spent_flow : (d : ℕ) (fl fl' : Flow) (o : Outcome) → 0 < d → Longer d fl fl' → fl' ≡ flow_of o 0 → SpentBefore fl o
spent_flow d (Gives v st) fl' o pos h is = absurd (omega (arith, ap left_in (sym h ∙ is), outcome_left o 0))
spent_flow d (Returns v st) fl' o pos h is = absurd (omega (arith, ap left_in (sym h ∙ is), outcome_left o 0))
spent_flow d (Spent calls) fl' o pos h is = record { calls = calls; is = refl; first = subst (IsPrefix calls) (ap calls_in is ∙ outcome_calls o 0) h }
spent_flow d (Stuck left calls) fl' o pos h is = absurd (omega (arith, ap left_in (sym h ∙ is), outcome_left o 0))

-- the run with all its steps and none left over
just_enough : (p : Program) (t : Task) (m : Moment) (b k : ℕ) (o : Outcome) → b < k → EndsIn p t m k o → run_task p t (at m (b + (k - b))) ≡ flow_of o 0
just_enough p t m b k o less h =
    let same : b + (k - b) ≡ steps k 0 = omega (arith, steps_are k 0) in
    ap (λ n. run_task p t (at m n)) same ∙ h.runs 0

-- with fewer steps the run is spent, and its calls are the first of all
pub spent_call : {p : Program} {f : ℕ} {vs : List Val} {m : Moment} {k : ℕ} {o : Outcome} → EndsIn p (Enter f vs) m k o → (b : ℕ) → b < k → SpentBefore (run_call p f vs (at m b)) o
spent_call {p} {f} {vs} {m} {k} {o} h b less =
    spent_flow (k - b) (run_call p f vs (at m b)) (run_call p f vs (at m (b + (k - b)))) o (omega arith) (call_is_longer (k - b) p f vs (at m b)) (just_enough p (Enter f vs) m b k o less h)

pub spent_eval : {p : Program} {e : Tree} {m : Moment} {k : ℕ} {o : Outcome} → EndsIn p (Eval e) m k o → (b : ℕ) → b < k → SpentBefore (run p e (at m b)) o
spent_eval {p} {e} {m} {k} {o} h b less =
    spent_flow (k - b) (run p e (at m b)) (run p e (at m (b + (k - b)))) o (omega arith) (longer (k - b) p e (at m b)) (just_enough p (Eval e) m b k o less h)

-- with at least as many steps it ends, and the others are left over
pub ends_from : {p : Program} {t : Task} {m : Moment} {k : ℕ} {o : Outcome} → EndsIn p t m k o → (b : ℕ) → k ≤ b → run_task p t (at m b) ≡ flow_of o (b - k)
ends_from {p} {t} {m} {k} {o} h b enough =
    let same : b ≡ steps k (b - k) = omega (arith, steps_are k (b - k)) in
    ap (λ n. run_task p t (at m n)) same ∙ h.runs (b - k)

more_flow : (o : Outcome) (left : ℕ) (fl : Flow) → Longer left (flow_of o 0) fl → fl ≡ flow_of o left
more_flow (Giving v m) left fl h = let none : 0 + left ≡ left = omega arith in h ∙ ap (λ n. Gives v (at m n)) none
more_flow (Returning v m) left fl h = let none : 0 + left ≡ left = omega arith in h ∙ ap (λ n. Returns v (at m n)) none

-- one run that leaves no step tells of all
pub ends_by_one : (p : Program) (e : Tree) (m : Moment) (k : ℕ) (o : Outcome) → run p e (at m k) ≡ flow_of o 0 → EndsIn p (Eval e) m k o
ends_by_one p e m k o is = record {
  runs = λ left.
      let same : steps k left ≡ k + left = steps_are k left in
      ap (λ n. run p e (at m n)) same ∙ more_flow o left (run p e (at m (k + left))) (subst (λ fl. Longer left fl (run p e (at m (k + left)))) is (longer left p e (at m k)));
}

-- what a flow comes to, but for the steps
abbrev outcome_in : Flow → Outcome → Outcome
outcome_in (Gives v st) o = Giving v (record { store = st.store; calls = st.calls })
outcome_in (Returns v st) o = Returning v (record { store = st.store; calls = st.calls })
outcome_in (Spent calls) o = o
outcome_in (Stuck left calls) o = o

outcome_back : (o other : Outcome) (left : ℕ) → outcome_in (flow_of o left) other ≡ o
outcome_back (Giving v m) other left = refl
outcome_back (Returning v m) other left = refl

-- a run ends in one way, in one number of steps
pub one_end : {p : Program} {t : Task} {m : Moment} {j k : ℕ} {o u : Outcome} → EndsIn p t m j o → EndsIn p t m k u → (j ≡ k) × (o ≡ u)
one_end {p} {t} {m} {j} {k} {o} {u} h g =
    let turned : steps j k ≡ steps k j = omega (arith, steps_are j k, steps_are k j) in
    let same : flow_of o k ≡ flow_of u j = sym (h.runs k) ∙ ap (λ n. run_task p t (at m n)) turned ∙ g.runs j in
    (sym (sym (outcome_left o k) ∙ ap left_in same ∙ outcome_left u j), sym (outcome_back o o k) ∙ ap (λ fl. outcome_in fl o) same ∙ outcome_back u o j)
