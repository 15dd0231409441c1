-- A match after which the frame goes on with its loop: what the loop answers is what follows on the match.
use Rattle.std.proofs.Common.{◌≡◌, inl, inr, ℕ, ◌+◌, ◌*◌, ◌<◌, ◌≤◌, List, sym, ap, ◌∙◌, subst, ⊎_elim, arith, mul-add}
use Rattle.lp_repr.specs.declared.lr1.Lr1State.{Lr1State}
use Rattle.lp_repr.specs.declared.repr.Grammar.{Grammar}
use Rattle.lp_repr.specs.declared.values.RunItem.{RunItem}
use Rattle.lp_machine.specs.declared.config.Config.{Config}
use Rattle.lp_machine.specs.Move.{moves}
use Rattle.lp_machine.specs.Tables.{Tables}
use Rattle.lp_machine.proofs.MoreMoves.{moves_after}
use Rattle.lp_turn_laws.specs.Alike.Course.{Leads}
use Rattle.lp_core.specs.Flow.{State, Flow, Gives, Returns, Spent, Stuck}
use Rattle.lp_core.specs.Prefix.{IsPrefix}
use Rattle.lp_core.specs.Val.{Val}
use Rattle.lp_back_end_laws.specs.Call.Slots.{layout}
use Rattle.lp_back_end_laws.specs.Call.Frames.{Emptied}
use Rattle.lp_back_end_laws.specs.Call.Standing.{Reduced, as_users}
use Rattle.lp_back_end_laws.specs.Call.Law.{Takes}
use Rattle.lp_back_end_laws.specs.Call.Turns.{TurnResult, TurnFails, TurnAnswers}
use Rattle.lp_back_end_laws.proofs.Call.Matching.{MatchAnswers}
use Rattle.lp_back_end_laws.proofs.Call.Moves.{ends_later}
use Rattle.lp_back_end_laws.proofs.Call.TurnSlots.{emptied_both}

-- steps until the loop, and in it
both_cost : (most x y z a b k : ℕ) → x + 3 ≤ y + most * (a + 1) → y ≤ z + most * b + k → k ≤ 1 → x + 2 ≤ z + most * (a + b + 1)
both_cost most x y z a b k h g few =
    let e : a + b + 1 ≡ a + 1 + b = omega arith in
    subst (λ n. x + 2 ≤ z + n) (sym (ap (λ n. most * n) e ∙ mul-add most (a + 1) b)) (sum (most * (a + 1)) (most * b) h g)
  where
    sum : (p q : ℕ) → x + 3 ≤ y + p → y ≤ z + q + k → x + 2 ≤ z + (p + q)
    sum p q h g = omega (arith, h, g, few)

-- where they are spent
spent_cost : (most x y a b : ℕ) → x + 3 ≤ y + most * (a + 1) → y ≤ most * b → x + 2 < most * (a + b + 1)
spent_cost most x y a b h g =
    let e : a + b + 1 ≡ a + 1 + b = omega arith in
    subst (λ n. x + 2 < n) (sym (ap (λ n. most * n) e ∙ mul-add most (a + 1) b)) (sum (most * (a + 1)) (most * b) h g)
  where
    sum : (p q : ℕ) → x + 3 ≤ y + p → y ≤ q → x + 2 < p + q
    sum p q h g = omega (arith, h, g)

-- later moves
later : (t : Tables) (items : List RunItem) (c now : Config) (m : ℕ) → Leads t items c now m → (k : ℕ) → moves t items k now ≡ moves t items (m + k) c
later t items c now m lead k = ap (moves t items k) (sym lead.comes) ∙ sym (moves_after t items m k c)

module _ (g : Grammar) (states : List Lr1State) (t : Tables) (items : List RunItem) (variant : ℕ → ℕ) (most : ℕ) (s : ℕ) (c now : Config) (own : List Val) (st turn : State) (m d0 : ℕ) (lead : Leads t items c now m) (steps : st.left + 3 ≤ turn.left + most * (m + 1))
    (emptied : Emptied (layout g states s) d0 own st.store.cells turn.store.cells) where
  pub match_loops : (fl : Flow) → TurnAnswers g states t items variant most s c own d0 now turn fl → MatchAnswers g states t items variant most s c own st fl
  match_loops (Gives v st') a = absurd a
  match_loops (Stuck left calls) a = absurd a
  match_loops (Returns v st') a =
      ⊎_elim
      (λ (r : TurnResult g states t items variant most s c own d0 now turn v st').
      let both = subst (λ x. (w : Reduced states t items variant s c r.d r.inner x) × Takes s r.d w.rule) (later t items c now m lead r.made) (r.reduced, r.takes) in
      inl (record {
        made = m + r.made;
        d = r.d;
        inner = r.inner;
        reduced = both.0;
        value = r.value;
        takes = both.1;
        cells = emptied_both emptied r.cells r.no_less;
        taken = r.taken ∙ ap (λ (x : Config). x.taken) (later t items c now m lead r.made);
        calls = r.calls ∙ ap (λ (x : Config). as_users x.calls) (later t items c now m lead r.made);
        steps = both_cost most st.left turn.left st'.left m r.made 1 steps r.steps (omega arith);
      }))
      (λ (f : TurnFails g states t items variant most now turn v st').
      inr (record {
        made = m + f.made;
        failure = f.failure;
        over = ap (λ (x : Config). x.left) (sym (later t items c now m lead f.made)) ∙ f.over;
        value = f.value;
        calls = f.calls ∙ ap (λ (x : Config). as_users x.calls) (later t items c now m lead f.made);
        steps = both_cost most st.left turn.left st'.left m f.made 0 steps (omega (arith, f.steps)) (omega arith);
      }))
      a
  match_loops (Spent calls) a = record {
    made = m + a.made;
    first = subst (λ (x : Config). IsPrefix calls (as_users x.calls)) (later t items c now m lead a.made) a.first;
    early = λ k h.
        let w = ends_later t items c now m k lead h in
        subst (λ n. st.left + 2 < most * (n + 1)) (sym w.1) (spent_cost most st.left turn.left m w.0 steps (a.early w.0 w.2));
  }
