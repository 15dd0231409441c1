-- Calls of user code are only added, and what bounds tell.
use Rattle.std.proofs.Common.{◌≡◌, ℕ, ◌<◌, ◌≤◌, Bool, true, false, ltb, List, [], ◌∷◌, ◌++◌, length, Some, refl, ap, ◌∙◌, arith, subst}
use Rattle.std.proofs.lemmas.Bool.Decides.{nat_tests}
use Rattle.std.specs.Option.{option_map, option_to_list}
use Rattle.lp_core.specs.declared.expr.Join.TheVariants as join
use Rattle.lp_core.specs.declared.expr.Target.TheVariants as target
use Rattle.lp_core.specs.Val.{Val}
use Rattle.lp_core.specs.Tree.{Tree, end}
use Rattle.lp_core.specs.Store.{UserCall, Program}
use Rattle.lp_core.specs.Effect.{gave}
use Rattle.lp_core.specs.CallMeaning.{user_call, answer}
use Rattle.lp_core.specs.Eval.{call_within}
use Rattle.lp_core.specs.Prefix.{IsPrefix}
use Rattle.lp_core.proofs.Falls.{After, same_prefix, eval_falls, args_falls, call_falls}
use Rattle.lp_core.proofs.Same.{run_end}
use Rattle.lp_code_laws.specs.Ends.Ends.{Moment, moment, at, steps, Task, Eval, Arguments, Enter, Outcome, Giving, Returning, flow_of, EndsIn}
use Rattle.lp_code_laws.specs.Ends.Spent.{calls_at}
use Rattle.lp_code_laws.specs.Ends.Cut.{Reaches, Settled, Ended, Short}
use Rattle.lp_code_laws.proofs.Ends.Steps.{ends_as}
use Rattle.lp_code_laws.proofs.Ends.Spent.{spent_call}
use Rattle.lp_code_laws.proofs.Ends.Calls.{joined_calls}

outcome_grows : (k : ℕ) (c : List UserCall) (o : Outcome) (left : ℕ) → After k c (flow_of o left) → IsPrefix c (calls_at o)
outcome_grows k c (Giving v m) left h = h.1
outcome_grows k c (Returning v m) left h = h.1

module _ {p : Program} where
  -- the calls before come first
  pub eval_grows : {e : Tree} {m : Moment} {k : ℕ} {o : Outcome} → EndsIn p (Eval e) m k o → IsPrefix m.calls (calls_at o)
  eval_grows {e} {m} {k} {o} h =
      let n = steps k 0 in
      outcome_grows n m.calls o 0 (subst (After n m.calls) (h.runs 0) (eval_falls n m.calls p (call_within p n) n (call_falls n m.calls p n) e (at m n) (omega arith, same_prefix m.calls)))

  pub call_grows : {f : ℕ} {vs : List Val} {m : Moment} {k : ℕ} {o : Outcome} → EndsIn p (Enter f vs) m k o → IsPrefix m.calls (calls_at o)
  call_grows {f} {vs} {m} {k} {o} h =
      let n = steps k 0 in
      outcome_grows n m.calls o 0 (subst (After n m.calls) (run_end p f vs (at m n) ∙ h.runs 0) (args_falls n m.calls p (call_within p n) n (call_falls n m.calls p n) (target.Function f) end vs (at m n) (omega arith, same_prefix m.calls)))

  -- a call of user code
  pub event : {code params : ℕ} {fallible : Bool} {vs : List Val} {m : Moment} (made : UserCall) → user_call p (length m.calls) code params vs ≡ Some made → EndsIn p (Arguments (target.Join (join.Event code fallible params)) end vs) m 0 (Giving (answer p fallible (length m.calls)) (moment m.store (m.calls ++ made ∷ [])))
  event {code} {params} {fallible} {vs} {m} made is =
      ends_as (joined_calls (ap (λ o. gave (option_map (λ call. answer p fallible (length m.calls)) o) m.store) is))
      (ap (λ o. Giving (answer p fallible (length m.calls)) (moment m.store (m.calls ++ option_to_list o))) is)

  -- a wider bound, and less that is told
  pub reaches_more : {t : Task} {m : Moment} {most wider : ℕ} {Good Fair : Outcome → Type 0} → Reaches p t m most Good → most ≤ wider → ((o : Outcome) → Good o → Fair o) → Reaches p t m wider Fair
  reaches_more r le weaker = record { many = r.many; outcome = r.outcome; few = omega (arith, r.few); ends = r.ends; good = weaker r.outcome r.good }

  settled_if : {f : ℕ} {vs : List Val} {m : Moment} {k : ℕ} {o : Outcome} (b : ℕ) (less : Bool) → ltb b k ≡ less → EndsIn p (Enter f vs) m k o → Settled p (Enter f vs) m b (λ j u. (j ≡ k) × (u ≡ o)) (λ calls. IsPrefix calls (calls_at o))
  settled_if {k = k} b true is h =
      let less : b < k = grind (arith, nat_tests) in
      let s = spent_call h b less in
      Short s.calls (record { is = s.is }) s.first
  settled_if {k = k} {o = o} b false is h =
      let enough : k ≤ b = grind (arith, nat_tests) in
      Ended k o enough h (refl, refl)

  -- a call that ends is settled with each number of steps
  pub settled : {f : ℕ} {vs : List Val} {m : Moment} {k : ℕ} {o : Outcome} → EndsIn p (Enter f vs) m k o → (b : ℕ) → Settled p (Enter f vs) m b (λ j u. (j ≡ k) × (u ≡ o)) (λ calls. IsPrefix calls (calls_at o))
  settled {k = k} h b = settled_if b (ltb b k) refl h
