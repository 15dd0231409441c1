-- A callee that fails, or a budget that is spent in it, seen from its caller: and the same of a loop over gotos.
use Rattle.std.proofs.Common.{◌≡◌, ℕ, suc, ◌+◌, ◌*◌, ◌<◌, ◌≤◌, List, sym, ap, ◌∙◌, subst, arith, mul-add}
use Rattle.lp_repr.specs.declared.values.RunItem.{RunItem}
use Rattle.lp_repr.specs.declared.lr1.Lr1State.{Lr1State}
use Rattle.lp_repr.specs.declared.repr.Grammar.{Grammar}
use Rattle.lp_machine.specs.declared.config.Config.{Config}
use Rattle.lp_machine.specs.Move.{moves}
use Rattle.lp_machine.specs.Tables.{Tables}
use Rattle.lp_machine.proofs.MoreMoves.{moves_after}
use Rattle.lp_turn_laws.specs.Alike.Course.{Leads}
use Rattle.lp_core.specs.Flow.{State}
use Rattle.lp_core.specs.Prefix.{IsPrefix}
use Rattle.lp_core.specs.Store.{UserCall}
use Rattle.lp_core.specs.Val.{Val}
use Rattle.lp_back_end_laws.specs.Call.Standing.{as_users}
use Rattle.lp_back_end_laws.specs.Call.Law.{FailedWith, SpentOn}
use Rattle.lp_back_end_laws.specs.Call.Turns.{TurnFails, TurnSpent}
use Rattle.lp_back_end_laws.proofs.Call.Moves.{ends_later}

-- ---- steps, where a move costs at most so many
-- of some moves and of further ones
pub both_cost : (most x y z a b : ℕ) → x ≤ y + most * a → y ≤ z + most * b → x ≤ z + most * (a + b)
both_cost most x y z a b h g = subst (λ n. x ≤ z + n) (sym (mul-add most a b)) (sum (most * a) (most * b) h g)
  where
    sum : (p q : ℕ) → x ≤ y + p → y ≤ z + q → x ≤ z + (p + q)
    sum p q h g = omega (arith, h, g)

-- where all is spent
spent_cost : (most x y a b : ℕ) → x ≤ y + most * a → y ≤ most * b → x ≤ most * (a + b)
spent_cost most x y a b h g = subst (λ n. x ≤ n) (sym (mul-add most a b)) (sum (most * a) (most * b) h g)
  where
    sum : (p q : ℕ) → x ≤ y + p → y ≤ q → x ≤ p + q
    sum p q h g = omega (arith, h, g)

same_place : (m k : ℕ) → m + (k + 1) ≡ m + k + 1
same_place m k = omega arith

-- ---- later moves
module _ {t : Tables} {items : List RunItem} {c from : Config} (m : ℕ) (lead : Leads t items c from m) where
  pub later : (k : ℕ) → moves t items k from ≡ moves t items (m + k) c
  later k = ap (moves t items k) (sym lead.comes) ∙ sym (moves_after t items m k c)

  pub prefix_later : (k : ℕ) (calls : List UserCall) → IsPrefix calls (as_users (moves t items k from).calls) → IsPrefix calls (as_users (moves t items (m + k) c).calls)
  prefix_later k calls first = subst (λ x. IsPrefix calls (as_users x.calls)) (later k) first

module _ {g : Grammar} {states : List Lr1State} {t : Tables} {items : List RunItem} {variant : ℕ → ℕ} {most : ℕ} {c from : Config} (m : ℕ) (lead : Leads t items c from m) (st inside : State) where
  -- ---- a call within a call
  pub fails_on : (v : Val) (after st' : State) → FailedWith g states t items variant most from inside v after → st'.calls ≡ after.calls → st'.left ≡ after.left → st.left ≤ inside.left + most * m → FailedWith g states t items variant most c st v st'
  fails_on v after st' f calls left steps = record {
    made = m + f.made;
    failure = f.failure;
    over = ap (λ x. x.left) (sym (later m lead f.made)) ∙ f.over;
    value = f.value;
    calls = calls ∙ f.calls ∙ ap (λ x. as_users x.calls) (later m lead f.made);
    steps = subst (λ n. st.left + 1 ≤ n + most * (m + f.made + 1)) (sym left) (subst (λ k. st.left + 1 ≤ after.left + most * k) (same_place m f.made) (both_cost most (st.left + 1) (inside.left + 1) after.left m (f.made + 1) (omega (arith, steps)) f.steps));
  }

  pub spent_in : (calls : List UserCall) → SpentOn g states t items variant most from inside calls → st.left ≤ inside.left + most * m → SpentOn g states t items variant most c st calls
  spent_in calls s steps = record {
    made = m + s.made;
    first = prefix_later m lead s.made calls s.first;
    early = λ k h.
        let w = ends_later t items c from m k lead h in
        let less = s.early w.0 w.2 in
        subst (λ n. st.left + 1 < most * n) (same_place m w.0 ∙ ap (λ n. n + 1) (sym w.1)) (spent_cost most (suc (st.left + 1)) (inside.left + 2) m (w.0 + 1) (omega (arith, steps)) (omega (arith, less)));
  }

  -- ---- a loop within a call
  pub loop_fails : (v : Val) (after st' : State) → TurnFails g states t items variant most from inside v after → st'.calls ≡ after.calls → st'.left ≡ after.left → st.left + 2 ≤ inside.left + most * (m + 1) → FailedWith g states t items variant most c st v st'
  loop_fails v after st' f calls left steps = record {
    made = m + f.made;
    failure = f.failure;
    over = ap (λ x. x.left) (sym (later m lead f.made)) ∙ f.over;
    value = f.value;
    calls = calls ∙ f.calls ∙ ap (λ x. as_users x.calls) (later m lead f.made);
    steps = subst (λ n. st.left + 1 ≤ n + most * (m + f.made + 1)) (sym left) (subst (λ k. st.left + 1 ≤ after.left + most * k) (next f.made) (both_cost most (st.left + 1) inside.left after.left (m + 1) f.made (omega (arith, steps)) f.steps));
  }
    where
      next : (k : ℕ) → m + 1 + k ≡ m + k + 1
      next k = omega arith

  pub loop_spent : (calls : List UserCall) → TurnSpent g states t items variant most from inside calls → st.left + 2 ≤ inside.left + most * (m + 1) → SpentOn g states t items variant most c st calls
  loop_spent calls s steps = record {
    made = m + s.made;
    first = prefix_later m lead s.made calls s.first;
    early = λ k h.
        let w = ends_later t items c from m k lead h in
        let less = s.early w.0 w.2 in
        subst (λ n. st.left + 1 < most * n) (next w.0 ∙ ap (λ n. n + 1) (sym w.1)) (spent_cost most (suc (st.left + 1)) inside.left (m + 1) w.0 (omega (arith, steps)) less);
  }
    where
      next : (k : ℕ) → m + 1 + k ≡ m + k + 1
      next k = omega arith

  -- ---- a call within a turn, and a further turn
  pub turn_fails_in : (v : Val) (after st' : State) → FailedWith g states t items variant most from inside v after → st'.calls ≡ after.calls → st'.left ≡ after.left → m ≡ 1 → st.left ≤ inside.left + 1 → TurnFails g states t items variant most c st v st'
  turn_fails_in v after st' f calls left one steps = record {
    made = m + f.made;
    failure = f.failure;
    over = ap (λ x. x.left) (sym (later m lead f.made)) ∙ f.over;
    value = f.value;
    calls = calls ∙ f.calls ∙ ap (λ x. as_users x.calls) (later m lead f.made);
    steps = subst (λ n. st.left ≤ n + most * (m + f.made)) (sym left) (subst (λ k. st.left ≤ after.left + most * k) (next f.made) (short (most * (f.made + 1)) f.steps));
  }
    where
      next : (k : ℕ) → k + 1 ≡ m + k
      next k = omega (arith, one)

      short : (n : ℕ) → inside.left + 1 ≤ after.left + n → st.left ≤ after.left + n
      short n h = omega (arith, h, steps)

  pub turn_spent_in : (calls : List UserCall) → SpentOn g states t items variant most from inside calls → m ≡ 1 → st.left ≤ inside.left + 1 → TurnSpent g states t items variant most c st calls
  turn_spent_in calls s one steps = record {
    made = m + s.made;
    first = prefix_later m lead s.made calls s.first;
    early = λ k h.
        let w = ends_later t items c from m k lead h in
        subst (λ n. st.left ≤ most * n) (next w.0 ∙ sym w.1) (short (most * (w.0 + 1)) (s.early w.0 w.2));
  }
    where
      next : (k : ℕ) → k + 1 ≡ m + k
      next k = omega (arith, one)

      short : (n : ℕ) → inside.left + 1 < n → st.left ≤ n
      short n h = omega (arith, h, steps)

  pub turn_fails_again : (v : Val) (st' : State) → TurnFails g states t items variant most from inside v st' → st.left ≤ inside.left + most * m → TurnFails g states t items variant most c st v st'
  turn_fails_again v st' f steps = record {
    made = m + f.made;
    failure = f.failure;
    over = ap (λ x. x.left) (sym (later m lead f.made)) ∙ f.over;
    value = f.value;
    calls = f.calls ∙ ap (λ x. as_users x.calls) (later m lead f.made);
    steps = both_cost most st.left inside.left st'.left m f.made steps f.steps;
  }

  pub turn_spent_again : (calls : List UserCall) → TurnSpent g states t items variant most from inside calls → st.left ≤ inside.left + most * m → TurnSpent g states t items variant most c st calls
  turn_spent_again calls s steps = record {
    made = m + s.made;
    first = prefix_later m lead s.made calls s.first;
    early = λ k h.
        let w = ends_later t items c from m k lead h in
        let less = s.early w.0 w.2 in
        subst (λ n. st.left ≤ most * n) (sym w.1) (spent_cost most st.left inside.left m w.0 steps less);
  }
