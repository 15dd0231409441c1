-- How a match goes on that called another state's function, or came to the loop: by what these answer.
use Rattle.std.proofs.Common.{◌≡◌, ℕ, ◌+◌, ◌-◌, ◌*◌, ◌<◌, ◌≤◌, List, map, pos, Some, sym, ap, ◌∙◌, subst, arith, mul-add, mul-one, mul-zero, ⊎_elim, refl, Option, None}
use Rattle.std.specs.Prelude.{slice_set, IsSome}
use Rattle.std.proofs.lemmas.Bool.{cases_lt}
use Rattle.lp_repr.specs.declared.lr1.Lr1State.{Lr1State}
use Rattle.lp_repr.specs.declared.repr.Grammar.{Grammar}
use Rattle.lp_repr.specs.declared.values.RunItem.{RunItem}
use Rattle.lp_machine.specs.declared.config.Config.{Config}
use Rattle.lp_machine.specs.Move.{moves}
use Rattle.lp_machine.specs.RunEnds.{ended}
use Rattle.lp_machine.specs.Tables.{Tables}
use Rattle.lp_driver.specs.Values.{Ending}
use Rattle.lp_machine.proofs.MoreMoves.{moves_after}
use Rattle.lp_machine.proofs.RunMoves.{over_stays}
use Rattle.lp_turn_laws.specs.Alike.Course.{Leads}
use Rattle.lp_core.specs.Flow.{State}
use Rattle.lp_core.specs.Prefix.{IsPrefix}
use Rattle.lp_core.specs.Store.{UserCall, States}
use Rattle.lp_core.specs.Val.{Val}
use Rattle.lp_back_end_laws.specs.Call.Slots.{layout}
use Rattle.lp_back_end_laws.specs.Call.Frames.{Emptied}
use Rattle.lp_back_end_laws.specs.Call.Standing.{Reduced, as_users}
use Rattle.lp_back_end_laws.specs.Call.Back.{Back}
use Rattle.lp_back_end_laws.specs.Call.Law.{Result, FailedWith, SpentOn, Takes}
use Rattle.lp_back_end_laws.specs.Call.Turns.{TurnResult, TurnFails, TurnSpent}
use Rattle.lp_back_end_laws.proofs.Call.Failing.{later, prefix_later}
use Rattle.lp_back_end_laws.proofs.Call.Matching.{MatchResult, MatchFails, MatchSpent}
use Rattle.lp_back_end_laws.proofs.Call.Moves.{ends_later}
use Rattle.lp_back_end_laws.proofs.Call.TurnSlots.{emptied_both}

-- ---- steps, where a move costs at most so many
-- one more move, of which one step was made
pub more_cost : (most x z b : ℕ) → 2 ≤ most → x + 1 ≤ z + most * (b + 1) → x + 3 ≤ z + most * (1 + b + 1)
more_cost most x z b some h =
    let e : 1 + b + 1 ≡ b + 1 + 1 = omega arith in
    let one : most * (b + 1 + 1) ≡ most * (b + 1) + most = mul-add most (b + 1) 1 ∙ ap (λ n. most * (b + 1) + n) (mul-one most) in
    subst (λ n. x + 3 ≤ z + n) (sym (ap (λ n. most * n) e ∙ one)) (sum (most * (b + 1)) h)
  where
    sum : (p : ℕ) → x + 1 ≤ z + p → x + 3 ≤ z + (p + most)
    sum p h = omega (arith, h, some)

-- further moves after that
last_cost : (most x y z a b : ℕ) → x + 3 ≤ y + most * (a + 1) → y ≤ z + most * b + 1 → x + 2 ≤ z + most * (a + b + 1)
last_cost most x y z a b h g =
    let e : a + b + 1 ≡ a + 1 + b = omega arith in
    subst (λ n. x + 2 ≤ z + n) (sym (ap (λ n. most * n) e ∙ mul-add most (a + 1) b)) (sum (most * (a + 1)) (most * b) h g)
  where
    sum : (p q : ℕ) → x + 3 ≤ y + p → y ≤ z + q + 1 → x + 2 ≤ z + (p + q)
    sum p q h g = omega (arith, h, g)

fewer : (x z n : ℕ) → x + 3 ≤ z + n → x + 2 ≤ z + n
fewer x z n h = omega (arith, h)

-- an end stays
pub ended_stays : (t : Tables) (items : List RunItem) (a : Config) (k m : ℕ) → k ≤ m → IsSome (ended (moves t items k a).left) → IsSome (ended (moves t items m a).left)
ended_stays t items a k m le h = by (ended (moves t items k a).left) refl h
  where
    by : (o : Option Ending) → ended (moves t items k a).left ≡ o → IsSome o → IsSome (ended (moves t items m a).left)
    by None e none = absurd cc
    by (Some end) e some =
        let d : ℕ = m - k in
        let same : k + d ≡ m = omega (arith, le) in
        subst (λ n. IsSome (ended (moves t items n a).left)) same
        (subst (λ x. IsSome (ended x.left)) (sym (moves_after t items k d a ∙ over_stays t items d (moves t items k a) end e)) h)

module _ {g : Grammar} {states : List Lr1State} {t : Tables} {items : List RunItem} {variant : ℕ → ℕ} {most : ℕ} (some : 2 ≤ most) {c from : Config} (lead : Leads t items c from 1) (st inside : State) (same : inside.left ≡ st.left) where
  -- the callee fails
  pub match_fails_on : (v : Val) (after st' : State) → FailedWith g states t items variant most from inside v after → st'.calls ≡ after.calls → st'.left ≡ after.left → MatchFails g states t items variant most c st v st'
  match_fails_on v after st' f calls left = record {
    made = 1 + f.made;
    failure = f.failure;
    over = ap (λ x. x.left) (sym (later 1 lead f.made)) ∙ f.over;
    value = f.value;
    calls = calls ∙ f.calls ∙ ap (λ x. as_users x.calls) (later 1 lead f.made);
    steps = subst (λ n. st.left + 2 ≤ n + most * (1 + f.made + 1)) (sym left) (fewer st.left after.left (most * (1 + f.made + 1)) (more_cost most st.left after.left f.made some (subst (λ n. n + 1 ≤ after.left + most * (f.made + 1)) same f.steps)));
  }

  -- it is spent
  pub match_spent_in : (calls : List UserCall) → SpentOn g states t items variant most from inside calls → MatchSpent g states t items variant most c st calls
  match_spent_in calls s = record {
    made = 1 + s.made;
    first = prefix_later 1 lead s.made calls s.first;
    early = λ k h.
        let w = ends_later t items c from 1 k lead h in
        subst (λ n. st.left + 2 < most * (n + 1)) (sym w.1) (by w.0 (s.early w.0 w.2));
  }
    where
      by : (j : ℕ) → inside.left + 1 < most * (j + 1) → st.left + 2 < most * (1 + j + 1)
      by j less = strict (most * (1 + j + 1)) (more_cost most st.left 0 j some (weaker (most * (j + 1)) less))
        where
          weaker : (n : ℕ) → inside.left + 1 < n → st.left + 1 ≤ 0 + n
          weaker n less = omega (arith, less, same)

          strict : (n : ℕ) → st.left + 3 ≤ 0 + n → st.left + 2 < n
          strict n h = omega (arith, h)

  -- ---- the callee succeeded
  module _ (s p : ℕ) (list : ℕ) (own handed : List Val) (after : State) (v : Val) (r : Result g states t items variant most p from handed inside v after) (b : Back g states t items variant s p c list own st.store.cells after.store.cells r.inner (moves t items r.made from)) where
    there : moves t items r.made from ≡ moves t items (1 + r.made) c
    there = later 1 lead r.made

    cost : st.left + 3 ≤ after.left + most * (1 + r.made + 1)
    cost = more_cost most st.left after.left r.made some (subst (λ n. n + 1 ≤ after.left + most * (r.made + 1)) same r.steps)

    -- the frame returns what it answered
    pub match_passes_on : (st' : State) → Takes s b.d b.reduced.rule → st'.store.cells ≡ slice_set after.store.cells list (States (map pos c.states)) → st'.store.taken ≡ after.store.taken → st'.calls ≡ after.calls → st'.left ≡ after.left → MatchResult g states t items variant most s c own st v st'
    match_passes_on st' takes cells taken calls left =
        let both = subst (λ x. (w : Reduced states t items variant s c b.d r.inner x) × Takes s b.d w.rule) there (b.reduced, takes) in
        record {
          made = 1 + r.made;
          d = b.d;
          inner = r.inner;
          reduced = both.0;
          value = r.value;
          takes = both.1;
          cells = subst (Emptied (layout g states s) b.d own st.store.cells) (sym cells) b.cells;
          taken = taken ∙ r.taken ∙ ap (λ x. x.taken) there;
          calls = calls ∙ r.calls ∙ ap (λ x. as_users x.calls) there;
          steps = subst (λ n. st.left + 2 ≤ n + most * (1 + r.made + 1)) (sym left) (fewer st.left after.left (most * (1 + r.made + 1)) cost);
        }

    -- it comes to its loop
    module _ (turn : State) (cells : turn.store.cells ≡ slice_set after.store.cells list (States (map pos c.states))) (left : turn.left ≡ after.left) where
      later_still : (k : ℕ) → moves t items k (moves t items r.made from) ≡ moves t items (1 + r.made + k) c
      later_still k = ap (moves t items k) there ∙ sym (moves_after t items (1 + r.made) k c)

      turn_cost : st.left + 3 ≤ turn.left + most * (1 + r.made + 1)
      turn_cost = subst (λ n. st.left + 3 ≤ n + most * (1 + r.made + 1)) (sym left) cost

      pub match_loops_on : (w : Val) (st' : State) → TurnResult g states t items variant most s c own b.d (moves t items r.made from) turn w st' → MatchResult g states t items variant most s c own st w st'
      match_loops_on w st' x =
          let moved = later_still x.made in
          let both = subst (λ y. (w : Reduced states t items variant s c x.d x.inner y) × Takes s x.d w.rule) moved (x.reduced, x.takes) in
          record {
            made = 1 + r.made + x.made;
            d = x.d;
            inner = x.inner;
            reduced = both.0;
            value = x.value;
            takes = both.1;
            cells = emptied_both (subst (Emptied (layout g states s) b.d own st.store.cells) (sym cells) b.cells) x.cells x.no_less;
            taken = x.taken ∙ ap (λ y. y.taken) moved;
            calls = x.calls ∙ ap (λ y. as_users y.calls) moved;
            steps = last_cost most st.left turn.left st'.left (1 + r.made) x.made turn_cost x.steps;
          }

      pub match_loop_fails : (w : Val) (st' : State) → TurnFails g states t items variant most (moves t items r.made from) turn w st' → MatchFails g states t items variant most c st w st'
      match_loop_fails w st' f = record {
        made = 1 + r.made + f.made;
        failure = f.failure;
        over = ap (λ y. y.left) (sym (later_still f.made)) ∙ f.over;
        value = f.value;
        calls = f.calls ∙ ap (λ y. as_users y.calls) (later_still f.made);
        steps = last_cost most st.left turn.left st'.left (1 + r.made) f.made turn_cost (more (most * f.made) f.steps);
      }
        where
          more : (n : ℕ) → turn.left ≤ st'.left + n → turn.left ≤ st'.left + n + 1
          more n h = omega (arith, h)

      -- spent there: the callee's own bound counts where the machine's run was over before
      pub match_loop_spent : ((k : ℕ) → IsSome (ended (moves t items k from).left) → inside.left + 1 ≤ after.left + most * (k + 1)) → (calls : List UserCall) → TurnSpent g states t items variant most (moves t items r.made from) turn calls → MatchSpent g states t items variant most c st calls
      match_loop_spent bound calls x = record {
        made = 1 + r.made + x.made;
        first = subst (λ y. IsPrefix calls (as_users y.calls)) (later_still x.made) x.first;
        early = λ k h.
            let w = ends_later t items c from 1 k lead h in
            subst (λ n. st.left + 2 < most * (n + 1)) (sym w.1) (strict w.0 (enough w.0 w.2));
      }
        where
          strict : (j : ℕ) → inside.left + 1 ≤ most * (j + 1) → st.left + 2 < most * (1 + j + 1)
          strict j h = by (most * (1 + j + 1)) (more_cost most st.left 0 j some (weaker (most * (j + 1)) h))
            where
              weaker : (n : ℕ) → inside.left + 1 ≤ n → st.left + 1 ≤ 0 + n
              weaker n h = omega (arith, h, same)

              by : (n : ℕ) → st.left + 3 ≤ 0 + n → st.left + 2 < n
              by n h = omega (arith, h)

          none_left : (n : ℕ) → n ≡ 0 → turn.left ≤ n → after.left ≡ 0
          none_left n e le = omega (arith, e, le, left)

          before : (n : ℕ) → after.left ≡ 0 → inside.left + 1 ≤ after.left + n → inside.left + 1 ≤ n
          before n e h = omega (arith, e, h)

          behind : (i : ℕ) → turn.left ≤ most * i → inside.left + 1 ≤ most * (r.made + i + 1)
          behind i le =
              let e : r.made + i + 1 ≡ r.made + 1 + i = omega arith in
              subst (λ n. inside.left + 1 ≤ n) (sym (ap (λ n. most * n) e ∙ mul-add most (r.made + 1) i)) (sum (most * (r.made + 1)) (most * i) r.steps le)
            where
              sum : (p q : ℕ) → inside.left + 1 ≤ after.left + p → turn.left ≤ q → inside.left + 1 ≤ p + q
              sum p q h g = omega (arith, h, g, left)

          enough : (j : ℕ) → IsSome (ended (moves t items j from).left) → inside.left + 1 ≤ most * (j + 1)
          enough j h =
              ⊎_elim
              (λ (less : j < r.made). before (most * (j + 1)) (none_left (most * 0) (mul-zero most) (x.early 0 (ended_stays t items from j r.made (omega (arith, less)) h))) (bound j h))
              (λ (le : r.made ≤ j).
              let i : ℕ = j - r.made in
              let e : r.made + i ≡ j = omega (arith, le) in
              let h' : IsSome (ended (moves t items i (moves t items r.made from)).left) = subst (λ y. IsSome (ended y.left)) (sym (ap (λ n. moves t items n from) e) ∙ moves_after t items r.made i from) h in
              subst (λ n. inside.left + 1 ≤ most * (n + 1)) e (behind i (x.early i h')))
              (cases_lt j r.made)
