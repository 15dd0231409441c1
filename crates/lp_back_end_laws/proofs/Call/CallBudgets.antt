-- What a call that succeeded has left of its steps, against the machine's moves until any end: with fewer steps it would have been spent.
use Rattle.std.proofs.Common.{◌≡◌, ℕ, ◌+◌, ◌-◌, ◌*◌, ◌<◌, ◌≤◌, List, sym, ap, ◌∙◌, subst, arith, ⊎_elim, mul-add, mul-one}
use Rattle.std.specs.Prelude.{IsSome}
use Rattle.std.proofs.lemmas.Bool.{cases_lt}
use Rattle.lp_repr.specs.declared.lr1.Lr1State.{Lr1State}
use Rattle.lp_repr.specs.declared.repr.Grammar.{Grammar}
use Rattle.lp_repr.specs.declared.values.RunItem.{RunItem}
use Rattle.lp_machine.specs.declared.config.Config.{Config}
use Rattle.lp_machine.specs.Move.{moves}
use Rattle.lp_machine.specs.RunEnds.{ended}
use Rattle.lp_machine.specs.Tables.{Tables}
use Rattle.lp_core.specs.declared.expr.Target.TheVariants as target
use Rattle.lp_core.specs.Budget.{Longer}
use Rattle.lp_core.specs.Eval.{run_call, call_within}
use Rattle.lp_core.specs.Flow.{State, Flow, Gives, Returns, Spent, Stuck}
use Rattle.lp_core.specs.Store.{Program}
use Rattle.lp_core.specs.Tree.{end}
use Rattle.lp_core.specs.Val.{Val}
use Rattle.lp_core.proofs.Falls.{After, same_prefix, args_falls, call_falls}
use Rattle.lp_core.proofs.Longer.{call_is_longer}
use Rattle.lp_core.proofs.Same.{run_end}
use Rattle.lp_code_laws.specs.Ends.Ends.{Moment, at}
use Rattle.lp_back_end_laws.specs.Call.Law.{Answers}

-- no steps are added
pub call_left : (p : Program) (f : ℕ) (vs : List Val) (st st' : State) (v : Val) → run_call p f vs st ≡ Gives v st' → st'.left ≤ st.left
call_left p f vs st st' v is =
    (subst (After st.left st.calls) (run_end p f vs st ∙ is) (args_falls st.left st.calls p (call_within p st.left) st.left (call_falls st.left st.calls p st.left) (target.Function f) end vs st (omega arith, same_prefix st.calls))).0

-- what a flow has left
abbrev left_of : Flow → ℕ
left_of (Gives v st) = st.left
left_of (Returns v st) = st.left
left_of (Spent calls) = 0
left_of (Stuck left calls) = left

some_cost : (most k : ℕ) → 1 ≤ most → 1 ≤ most * (k + 1)
some_cost most k some =
    let e : most * (k + 1) ≡ most * k + most = mul-add most k 1 ∙ ap (λ n. most * k + n) (mul-one most) in
    subst (λ n. 1 ≤ n) (sym e) (omega (arith, some))

module _ {g : Grammar} {states : List Lr1State} {t : Tables} {items : List RunItem} {variant : ℕ → ℕ} {most : ℕ} (some : 1 ≤ most) (p : Program) (f : ℕ) (vs : List Val) (m : Moment) (s : ℕ) (c : Config) (slots : List Val) where
  -- where the same call answers so with fewer steps
  pub call_bound : (b : ℕ) (v : Val) (st' : State) → run_call p f vs (at m b) ≡ Gives v st' → ((b' : ℕ) → b' < b → Answers g states t items variant most s c slots (at m b') (run_call p f vs (at m b')))
      → (k : ℕ) → IsSome (ended (moves t items k c).left) → b + 1 ≤ st'.left + most * (k + 1)
  call_bound b v st' is answers k h =
      ⊎_elim
      (λ (less : st'.left < b).
      let b' : ℕ = b - (st'.left + 1) in
      let more : b' + (st'.left + 1) ≡ b = omega (arith, less) in
      let longer : Longer (st'.left + 1) (run_call p f vs (at m b')) (run_call p f vs (at m (b' + (st'.left + 1)))) = call_is_longer (st'.left + 1) p f vs (at m b') in
      by b' more (run_call p f vs (at m b')) (answers b' (omega (arith, less))) (subst (Longer (st'.left + 1) (run_call p f vs (at m b'))) (ap (λ n. run_call p f vs (at m n)) more ∙ is) longer))
      (λ (le : b ≤ st'.left). enough (most * (k + 1)) (some_cost most k some) le)
      (cases_lt st'.left b)
    where
      enough : (n : ℕ) → 1 ≤ n → b ≤ st'.left → b + 1 ≤ st'.left + n
      enough n one le = omega (arith, one, le)

      bound : (n b' : ℕ) → b' + (st'.left + 1) ≡ b → b' + 1 < n → b + 1 ≤ st'.left + n
      bound n b' more less = omega (arith, more, less)

      by : (b' : ℕ) → b' + (st'.left + 1) ≡ b → (fl : Flow) → Answers g states t items variant most s c slots (at m b') fl → Longer (st'.left + 1) fl (Gives v st') → b + 1 ≤ st'.left + most * (k + 1)
      by b' more (Gives w back) a e = (let same : st'.left ≡ back.left + (st'.left + 1) = ap left_of e in absurd (omega (arith, same)))
      by b' more (Returns w back) a e = absurd a
      by b' more (Spent calls) a e = bound (most * (k + 1)) b' more (a.early k h)
      by b' more (Stuck left calls) a e = absurd a
