-- What a call answers, from what its match on the lookahead does.
use Rattle.std.proofs.Common.{◌≡◌, ◌⊎◌, ℕ, ◌+◌, ◌*◌, ◌<◌, ◌≤◌, List, length, Some, slice_get, refl, sym, ap, ◌∙◌, subst, ⊎_elim, inl, inr, arith, mul-add, mul-one}
use Rattle.lp_repr.specs.declared.lr1.Lr1State.{Lr1State}
use Rattle.lp_repr.specs.declared.repr.Grammar.{Grammar}
use Rattle.lp_repr.specs.declared.values.RunItem.{RunItem}
use Rattle.lp_driver.specs.declared.answers.Expecting.TheVariants.{Trial}
use Rattle.lp_driver.specs.Values.{Text}
use Rattle.lp_core.specs.declared.value.StateType.{StateType}
use Rattle.lp_core.specs.Eval.{run_block}
use Rattle.lp_core.specs.Flow.{State, Flow, Gives, Returns, Spent, Stuck, leave}
use Rattle.lp_core.specs.Prefix.{IsPrefix}
use Rattle.lp_core.specs.Store.{Program, Held, UserCall}
use Rattle.lp_core.specs.Tree.{trees_of}
use Rattle.lp_core.specs.Val.{Val}
use Rattle.lp_machine.specs.declared.config.Config.{Config}
use Rattle.lp_machine.specs.GrammarTables.{grammar_tables}
use Rattle.lp_machine.specs.Move.{moves}
use Rattle.lp_machine.specs.ReductionSpan.{below}
use Rattle.lp_machine.specs.Tables.{Tables}
use Rattle.lp_machine.proofs.MoreMoves.{moves_after}
use Rattle.lp_code_laws.specs.Ends.Ends.{at}
use Rattle.lp_back_end_laws.specs.Call.Frames.{Emptied}
use Rattle.lp_back_end_laws.specs.Call.Law.{Answers, Takes}
use Rattle.lp_back_end_laws.specs.Call.Slots.{layout}
use Rattle.lp_back_end_laws.specs.Call.Standing.{Reduced, as_users}
use Rattle.lp_back_end_laws.proofs.Call.Beginning.{Matched, match_block}
use Rattle.lp_back_end_laws.proofs.Call.Leaving.{leaving}
use Rattle.lp_back_end_laws.proofs.Call.Matching.{MatchAnswers, MatchResult, MatchFails, MatchSpent}
use Rattle.lp_back_end_laws.proofs.Call.Moves.{ends_later}
use Rattle.lp_back_end_laws.proofs.Call.Setting.{Setting}

-- the steps of a call, by those of its match
call_steps : (most moved x left y m extra : ℕ) → 5 ≤ most → ((moved ≡ 0) × (x ≡ left + 1)) ⊎ ((moved ≡ 1) × (x ≤ left + 4)) → left + 2 + extra ≤ y + most * (m + 1) → x + 1 + extra ≤ y + most * (moved + m + 1)
call_steps most moved x left y m extra some (inl w) h = (let e : moved + m + 1 ≡ m + 1 = omega (arith, w.0) in subst (λ n. x + 1 + extra ≤ y + most * n) (sym e) (sum (most * (m + 1)) h))
  where
    sum : (n : ℕ) → left + 2 + extra ≤ y + n → x + 1 + extra ≤ y + n
    sum n h = omega (arith, h, w.1)
call_steps most moved x left y m extra some (inr w) h =
    let e : moved + m + 1 ≡ (m + 1) + 1 = omega (arith, w.0) in
    subst (λ n. x + 1 + extra ≤ y + most * n) (sym e) (subst (λ n. x + 1 + extra ≤ y + n) (sym (mul-add most (m + 1) 1 ∙ ap (λ n. most * (m + 1) + n) (mul-one most))) (sum (most * (m + 1)) h))
  where
    sum : (n : ℕ) → left + 2 + extra ≤ y + n → x + 1 + extra ≤ y + (n + most)
    sum n h = omega (arith, h, w.1, some)

-- a reduction that is seen from a place with the same stacks
reduced_from : (states : List Lr1State) (t : Tables) (items : List RunItem) (variant : ℕ → ℕ) (s : ℕ) (c now : Config) (d : ℕ) (v : Val) (after : Config) → now.states ≡ c.states → now.triples ≡ c.triples → (r : Reduced states t items variant s now d v after) → (w : Reduced states t items variant s c d v after) × (w.rule ≡ r.rule)
reduced_from states t items variant s c now d v after same_states same_triples r =
    (record { production = r.production; rule = r.rule; known = r.known; item = r.item; value = r.value; pending = r.pending; mending = r.mending; fits = r.fits; heights = r.heights; triples = r.triples ∙ ap (below d) same_triples; states_below = r.states_below ∙ ap (below d) same_states; look = r.look; look_taken = r.look_taken; kept = r.kept; answers = r.answers }, refl)

module _ {g : Grammar} {start : ℕ} {states : List Lr1State} {params : List Text} {failing : List ℕ} {items : List RunItem} {p : Program} {keys : List (List ℕ)} {given : List Val} {function action variant : ℕ → ℕ} {kind : StateType} {expected most cost : ℕ}
    (setting : Setting g start states params failing items p keys given function action variant kind expected most cost) (q : ℕ) (s : Lr1State) (there : slice_get states q ≡ Some s) where
  abbrev t : Tables
  t = grammar_tables g states Trial params failing

  module _ (c : Config) (list : ℕ) (slots : List Val) (st : State) (fl : Flow) (m : Matched setting q s there c list slots st fl) where
    -- later moves
    later : (k : ℕ) → moves t items k m.now ≡ moves t items (m.moved + k) c
    later k = ap (moves t items k) (sym m.leads.comes) ∙ sym (moves_after t items m.moved k c)

    succeeds_so : (v : Val) (st' : State) → MatchResult g states t items variant most q m.now m.own (at m.moment m.left) v st' → Answers g states t items variant most q c slots st (leave st.store.env (length st.store.cells) (Returns v st'))
    succeeds_so v st' r =
        let w = reduced_from states t items variant q c m.now r.d r.inner (moves t items r.made m.now) m.states_same m.triples_same r.reduced in
        let both = subst (λ x. (u : Reduced states t items variant q c r.d r.inner x) × Takes q r.d u.rule) (later r.made) (w.0, subst (Takes q r.d) (sym w.1) r.takes) in
        inl (record {
          made = m.moved + r.made;
          d = r.d;
          inner = r.inner;
          reduced = both.0;
          value = r.value;
          takes = both.1;
          cells = leaving (layout g states q) r.d slots m.own st.store.cells m.new st'.store.cells m.are_own (subst (λ (cells : List Held). Emptied (layout g states q) r.d m.own cells st'.store.cells) m.cells r.cells);
          env = refl;
          taken = r.taken ∙ ap (λ (x : Config). x.taken) (later r.made);
          calls = r.calls ∙ ap (λ (x : Config). as_users x.calls) (later r.made);
          steps = (let k = call_steps most m.moved st.left m.left st'.left r.made 0 setting.some m.steps_so (let h = r.steps in omega (arith, h)) in omega (arith, k));
        })

    fails_so : (v : Val) (st' : State) → MatchFails g states t items variant most m.now (at m.moment m.left) v st' → Answers g states t items variant most q c slots st (leave st.store.env (length st.store.cells) (Returns v st'))
    fails_so v st' r = inr (record {
      made = m.moved + r.made;
      failure = r.failure;
      over = ap (λ (x : Config). x.left) (sym (later r.made)) ∙ r.over;
      value = r.value;
      calls = r.calls ∙ ap (λ (x : Config). as_users x.calls) (later r.made);
      steps = (let k = call_steps most m.moved st.left m.left st'.left r.made 0 setting.some m.steps_so (let h = r.steps in omega (arith, h)) in omega (arith, k));
    })

    spent_so : (calls : List UserCall) → MatchSpent g states t items variant most m.now (at m.moment m.left) calls → Answers g states t items variant most q c slots st (Spent calls)
    spent_so calls r = record {
      made = m.moved + r.made;
      first = subst (λ (x : Config). IsPrefix calls (as_users x.calls)) (later r.made) r.first;
      early = λ k h.
          let w = ends_later t items c m.now m.moved k m.leads h in
          let less = r.early w.0 w.2 in
          let k2 = call_steps most m.moved st.left m.left 0 w.0 1 setting.some m.steps_so (omega (arith, less)) in
          subst (λ n. st.left + 1 < most * (n + 1)) (sym w.1) (omega (arith, k2));
    }

    -- the call answers as its match does
    pub answers_so : MatchAnswers g states t items variant most q m.now m.own (at m.moment m.left) (run_block p (trees_of (match_block setting q s there)) m.value (at m.moment m.left)) → Answers g states t items variant most q c slots st fl
    answers_so h = subst (Answers g states t items variant most q c slots st) (sym m.is) (by (run_block p (trees_of (match_block setting q s there)) m.value (at m.moment m.left)) h)
      where
        by : (f : Flow) → MatchAnswers g states t items variant most q m.now m.own (at m.moment m.left) f → Answers g states t items variant most q c slots st (leave st.store.env (length st.store.cells) f)
        by (Gives v st') h = absurd h
        by (Returns v st') h = ⊎_elim (succeeds_so v st') (fails_so v st') h
        by (Spent calls) h = spent_so calls h
        by (Stuck left calls) h = absurd h
