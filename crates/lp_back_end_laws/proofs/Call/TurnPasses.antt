-- A turn that calls the function of a goto's target: the frame returns what the callee answered, or it turns again.
use Rattle.std.proofs.Common.{◌≡◌, ℕ, zero, ◌+◌, ◌-◌, ◌*◌, ◌<◌, ◌≤◌, List, map, pos, Some, slice_get, refl, sym, ap, ◌∙◌, subst, inl, inr, ⊎_elim, arith, mul-add, mul-zero}
use Rattle.std.specs.Prelude.{slice_set, IsSome}
use Rattle.std.proofs.lemmas.Bool.{cases_lt}
use Rattle.lp_repr.specs.declared.lr1.Lr1State.{Lr1State}
use Rattle.lp_repr.specs.declared.numbering.SymbolNumber.{SymbolNumber}
use Rattle.lp_repr.specs.declared.repr.Grammar.{Grammar}
use Rattle.lp_repr.specs.declared.values.RunItem.{RunItem}
use Rattle.lp_driver.specs.Values.{Spanned, Value}
use Rattle.lp_machine.specs.declared.config.Config.{Config}
use Rattle.lp_machine.specs.Move.{moves}
use Rattle.lp_machine.specs.RunEnds.{ended}
use Rattle.lp_machine.specs.Tables.{Tables}
use Rattle.lp_machine.proofs.MoreMoves.{moves_after}
use Rattle.lp_turn_laws.specs.Alike.Course.{Leads}
use Rattle.lp_core.specs.declared.value.Tag.TheVariants as tag
use Rattle.lp_core.specs.Datum.{Unset}
use Rattle.lp_core.specs.Effect.{set_value}
use Rattle.lp_core.specs.Eval.{run, run_call}
use Rattle.lp_core.specs.Flow.{State, Flow, Gives, Returns, Spent, Stuck, then_value}
use Rattle.lp_core.specs.OpMeaning.{failure_val}
use Rattle.lp_core.specs.Prefix.{IsPrefix}
use Rattle.lp_core.specs.Reading.{wrapped}
use Rattle.lp_core.specs.Store.{Program, Held, States, UserCall}
use Rattle.lp_core.specs.Tree.{Tree, Loop}
use Rattle.lp_core.specs.Val.{Val, Plain}
use Rattle.lp_code_laws.specs.Ends.Ends.{Moment, moment, at, Eval, Returning}
use Rattle.lp_code_laws.proofs.Ends.Lists.{get_same}
use Rattle.lp_code_laws.proofs.Ends.Tags.{slot_is}
use Rattle.lp_question_laws.specs.Tables.Acts.{symbol_val}
use Rattle.lp_ascent.specs.Slots.{is_cell}
use Rattle.lp_turn_laws.specs.Paths.Over.{IsOver}
use Rattle.lp_turn_laws.specs.Paths.Walks.{edge_at}
use Rattle.lp_back_end_laws.specs.Call.Slots.{layout}
use Rattle.lp_back_end_laws.specs.Call.Frames.{AreSlots, AreApart, Emptied}
use Rattle.lp_back_end_laws.specs.Call.Handing.{Pushed, TakenOut, handed_slots}
use Rattle.lp_back_end_laws.specs.Call.Standing.{as_users, Reduced}
use Rattle.lp_back_end_laws.specs.Call.Stretches.{Rest, go_on, CallsIn, GoesOn, Passes, PassesTo}
use Rattle.lp_back_end_laws.specs.Call.Back as back
use Rattle.lp_back_end_laws.specs.Call.Law.{Answers, Result, FailedWith}
use Rattle.lp_back_end_laws.specs.Call.Turns.{Looping, Turning, TurnAnswers, TurnSpent}
use Rattle.lp_back_end_laws.proofs.Call.Back.{comes_back}
use Rattle.lp_back_end_laws.proofs.Call.CallBudgets.{call_left, call_bound}
use Rattle.lp_back_end_laws.proofs.Call.Edges.{edge_hands}
use Rattle.lp_back_end_laws.proofs.Call.Entering.{handed_own, list_apart, list_out}
use Rattle.lp_back_end_laws.proofs.Call.Envs.{env_back}
use Rattle.lp_back_end_laws.proofs.Call.Failing.{both_cost, later, turn_fails_in, turn_spent_in}
use Rattle.lp_back_end_laws.proofs.Call.MatchResults.{ended_stays}
use Rattle.lp_back_end_laws.proofs.Call.Matching.{LoopBelow}
use Rattle.lp_back_end_laws.proofs.Call.Moves.{ends_later}
use Rattle.lp_back_end_laws.proofs.Call.Settling.{Settled, Short, Comes, calls_settle}
use Rattle.lp_back_end_laws.proofs.Call.Transitions.{IsBack, with_result}
use Rattle.lp_back_end_laws.proofs.Call.TurnResults.{turn_passes_on, turns_again}

-- what a state's function answers can be read and stays
answer_set : {states : List Lr1State} {t : Tables} {items : List RunItem} {variant : ℕ → ℕ} {s : ℕ} {c : Config} {d : ℕ} {v : Val} {after : Config} → Reduced states t items variant s c d v after → set_value v ≡ Some v
answer_set r = subst (λ v. set_value v ≡ Some v) (sym r.answers) refl

-- before or after the one the same
one_more : (most x y a : ℕ) → x ≤ y + most * (a + 1) → x ≤ y + most * (1 + a)
one_more most x y a h = let e : a + 1 ≡ 1 + a = omega arith in subst (λ n. x ≤ y + most * n) e h

module _ {g : Grammar} {start : ℕ} {states : List Lr1State} {t : Tables} (over : IsOver g start states t) (items : List RunItem) (variant : ℕ → ℕ) (most : ℕ) (some : 1 ≤ most) (p : Program) (turn : Tree) (f : ℕ) (vs : List Val) (s : ℕ) (x : SymbolNumber) (q : ℕ) (edge : edge_at states s x ≡ Some q)
    (c : Config) {now from : Config} (lead : Leads t items now from 1) (y : Spanned Value) (pushed : Pushed c from q y) (list : ℕ) (own out : List Val) (m n : Moment) (cells_out : List Held) (are : AreSlots (layout g states s) (is_cell (layout g states s)) 0 c.triples m.store.cells own) (apart : AreApart own)
    (there : slice_get m.store.cells list ≡ Some (States (map pos c.states))) (took : TakenOut (layout g states s) ((layout g states q).fixed - 1) c.triples own out m.store.cells cells_out) (cells_are : n.store.cells ≡ slice_set cells_out list (States (map pos from.states))) (calls_are : n.calls ≡ as_users now.calls)
    (bound : ℕ) (answers : (left : ℕ) → left < bound → Answers g states t items variant most q from (handed_slots (layout g states s) (layout g states q) out (symbol_val y)) (at n left) (run_call p f vs (at n left))) where
  abbrev handed : List Val
  handed = handed_slots (layout g states s) (layout g states q) out (symbol_val y)

  -- how a flow goes on that began with so many steps left
  abbrev Block : ℕ → Flow → Type 0
  Block left fl = TurnAnswers g states t items variant most s c own 0 now (at m left) fl

  abbrev good : ℕ → ℕ → Val → Moment → Moment
  good z made v b = with_result z made list (map pos c.states) v b

  abbrev Back : Moment → Type 0
  Back b = IsBack n list (map pos from.states) b

  module _ (after : ℕ) (less : after < bound) (v : Val) (st' : State) (is : run_call p f vs (at n after) ≡ Gives v st') (r : Result g states t items variant most q from handed (at n after) v st') where
    is_back : IsBack n list (map pos from.states) (moment st'.store st'.calls)
    is_back =
        let hands = edge_hands over s x q edge in
        let l = layout g states s in
        let k = layout g states q in
        let above = map pos c.states in
        let then = map pos from.states in
        record {
          env = r.env;
          list = r.cells.kept list (λ j at. (let o = handed_own l k hands y list above then are apart took there j list at in absurd (list_apart l k hands y list above then are apart took there o.0 list o.3 refl)))
              ∙ ap (λ held. slice_get held list) cells_are ∙ get_same cells_out list (list_out l k hands y list above then are apart took there);
        }

    came : back.Back g states t items variant s q c list own m.store.cells st'.store.cells r.inner (moves t items r.made from)
    came = comes_back over items variant most s x q c from y list own out (at n after) m.store.cells cells_out v st' edge pushed are apart there took cells_are r

    -- its steps were enough for the machine's moves until any end
    at_least : (k : ℕ) → IsSome (ended (moves t items k from).left) → after + 1 ≤ st'.left + most * (k + 1)
    at_least = call_bound some p f vs n q from handed after v st' is (λ b' l. answers b' (omega (arith, l, less)))

  -- a callee that fails
  failing : (left after : ℕ) → left ≡ after + 1 → (rest : Rest) (z : ℕ) (v : Val) (st' : State) → run_call p f vs (at n after) ≡ Gives v st'
      → ((e : Val) (b : Moment) → set_value e ≡ Some e → b.store.env ≡ n.store.env → GoesOn p rest (wrapped tag.Failure e) b 0 (Returning (wrapped tag.Failure e) (slot_is z (Plain Unset) b)))
      → FailedWith g states t items variant most from (at n after) v st' → Block left (go_on p rest v st')
  failing left after same rest z v st' is bad a =
      let b = moment st'.store st'.calls in
      let e : go_on p rest v st' ≡ Returns v (at (slot_is z (Plain Unset) b) st'.left) =
      ap (λ w. go_on p rest w st') a.value ∙ (bad (failure_val a.failure) b refl (env_back p f vs (at n after) st' v is)).runs st'.left ∙ ap (λ w. Returns w (at (slot_is z (Plain Unset) b) st'.left)) (sym a.value) in
      subst (Block left) (sym e) (inr (turn_fails_in 1 lead (at m left) (at n after) v st' (at (slot_is z (Plain Unset) b) st'.left) a refl refl refl (omega (arith, same))))

  settle : {rest : Rest} → CallsIn p (Eval (Loop turn)) m 1 f vs n rest → (left : ℕ) → ((after : ℕ) → left ≡ after + 1 → Block left (then_value (run_call p f vs (at n after)) (go_on p rest))) → Block left (run p (Loop turn) (at m left))
  settle {rest} calls left goes = by (calls_settle calls left)
    where
      by : Settled (run p (Loop turn) (at m left)) left 1 n.calls (λ after. then_value (run_call p f vs (at n after)) (go_on p rest)) → Block left (run p (Loop turn) (at m left))
      by (Short few spent) = subst (Block left) (sym spent.is) (record { made = zero; first = subst (IsPrefix spent.calls) calls_are spent.first; early = λ k e. omega (arith, few) })
      by (Comes after e is) = subst (Block left) (sym is) (goes after (omega (arith, e)))

  -- ---- several of its slots are fixed: the frame returns
  pub turn_returned : {z made : ℕ} → 1 < (layout g states q).fixed → Passes p (Eval (Loop turn)) m 1 f vs n Back (λ v b. Returning (wrapped tag.Success v) (good z made v b)) (λ v b. Returning (wrapped tag.Failure v) (slot_is z (Plain Unset) b))
      → (left : ℕ) → left ≤ bound → Block left (run p (Loop turn) (at m left))
  turn_returned {z} {made} several passes left less =
      settle passes.calls left (λ after same. by after same (run_call p f vs (at n after)) refl (answers after (omega (arith, same, less))))
    where
      by : (after : ℕ) → left ≡ after + 1 → (fl : Flow) → run_call p f vs (at n after) ≡ fl → Answers g states t items variant most q from handed (at n after) fl → Block left (then_value fl (go_on p passes.rest))
      by after same (Gives v st') is (inl r) =
          let b = moment st'.store st'.calls in
          let below : after < bound = omega (arith, same, less) in
          let c' = came after below v st' is r in
          let e : go_on p passes.rest v st' ≡ Returns v (at (good z made r.inner b) st'.left) =
          ap (λ u. go_on p passes.rest u st') r.value ∙ (passes.success r.inner b (answer_set r.reduced) (is_back after below v st' is r)).runs st'.left ∙ ap (λ u. Returns u (at (good z made r.inner b) st'.left)) (sym r.value) in
          subst (Block left) (sym e) (inl (turn_passes_on s c own now (at m left) 1 q from list handed (at n after) st' v (at (good z made r.inner b) st'.left) lead.comes r c' (c'.returns several) refl refl refl refl (omega (arith, same)) refl))
      by after same (Gives v st') is (inr a) = failing left after same passes.rest z v st' is passes.failure a
      by after same (Returns v st') is a = absurd a
      by after same (Spent calls) is a = turn_spent_in 1 lead (at m left) (at n after) calls a refl (omega (arith, same))
      by after same (Stuck k calls) is a = absurd a

  -- ---- one of its slots is fixed: it turns again
  -- what a further turn comes to, this one comes to
  module _ (left after : ℕ) (same : left ≡ after + 1) (below : after < bound) (v : Val) (st' : State) (is : run_call p f vs (at n after) ≡ Gives v st') (r : Result g states t items variant most q from handed (at n after) v st')
      (c' : back.Back g states t items variant s q c list own m.store.cells st'.store.cells r.inner (moves t items r.made from)) (again : State) (cells : again.store.cells ≡ slice_set st'.store.cells list (States (map pos c.states))) (l : again.left ≡ st'.left) where
    later_still : (k : ℕ) → moves t items k (moves t items r.made from) ≡ moves t items (1 + r.made + k) now
    later_still k = ap (moves t items k) (later 1 lead r.made) ∙ sym (moves_after t items (1 + r.made) k now)

    spent_steps : left ≤ again.left + most * (1 + r.made)
    spent_steps = one_more most left again.left r.made (subst (λ k. left ≤ k + most * (r.made + 1)) (sym l) (subst (λ k. k ≤ st'.left + most * (r.made + 1)) (sym same) r.steps))

    module _ (calls : List UserCall) (a : TurnSpent g states t items variant most (moves t items r.made from) again calls) where
      none_left : (k : ℕ) → k ≡ 0 → again.left ≤ k → st'.left ≡ 0
      none_left k e le = omega (arith, e, le, l)

      at_end : (k : ℕ) → st'.left ≡ 0 → after + 1 ≤ st'.left + k → left ≤ k
      at_end k e h = omega (arith, e, h, same)

      behind : (i : ℕ) → again.left ≤ most * i → left ≤ most * (1 + r.made + i)
      behind i le = subst (λ k. left ≤ k) (sym (mul-add most (1 + r.made) i)) (sum (most * (1 + r.made)) (most * i) spent_steps le)
        where
          sum : (a b : ℕ) → left ≤ again.left + a → again.left ≤ b → left ≤ a + b
          sum a b h g = omega (arith, h, g)

      enough : (j : ℕ) → IsSome (ended (moves t items j from).left) → left ≤ most * (1 + j)
      enough j h =
          ⊎_elim
          (λ (less : j < r.made).
          let e : j + 1 ≡ 1 + j = omega arith in
          subst (λ k. left ≤ most * k) e (at_end (most * (j + 1)) (none_left (most * 0) (mul-zero most) (a.early 0 (ended_stays t items from j r.made (omega (arith, less)) h))) (at_least after below v st' is r j h)))
          (λ (le : r.made ≤ j).
          let i : ℕ = j - r.made in
          let e : r.made + i ≡ j = omega (arith, le) in
          let e1 : 1 + r.made + i ≡ 1 + j = omega (arith, e) in
          let h' : IsSome (ended (moves t items i (moves t items r.made from)).left) = subst (λ z. IsSome (ended z.left)) (sym (ap (λ k. moves t items k from) e) ∙ moves_after t items r.made i from) h in
          subst (λ k. left ≤ most * k) e1 (behind i (a.early i h')))
          (cases_lt j r.made)

      spent_again : TurnSpent g states t items variant most now (at m left) calls
      spent_again = record {
        made = 1 + r.made + a.made;
        first = subst (λ z. IsPrefix calls (as_users z.calls)) (later_still a.made) a.first;
        early = λ k h. (let w = ends_later t items now from 1 k lead h in subst (λ j. left ≤ most * j) (sym w.1) (enough w.0 w.2));
      }

    further : (fl : Flow) → TurnAnswers g states t items variant most s c own c'.d (moves t items r.made from) again fl → Block left fl
    further (Gives u end) a = absurd a
    further (Returns u end) (inl a) =
        inl (turns_again s c own now (at m left) (1 + r.made) c'.d (moves t items r.made from) again u end (sym (later 1 lead r.made)) (subst (Emptied (layout g states s) c'.d own m.store.cells) (sym cells) c'.cells) a spent_steps)
    further (Returns u end) (inr a) = inr (record {
      made = 1 + r.made + a.made;
      failure = a.failure;
      over = ap (λ z. z.left) (sym (later_still a.made)) ∙ a.over;
      value = a.value;
      calls = a.calls ∙ ap (λ z. as_users z.calls) (later_still a.made);
      steps = both_cost most left again.left end.left (1 + r.made) a.made spent_steps a.steps;
    })
    further (Spent calls) a = spent_again calls a
    further (Stuck k calls) a = absurd a

  pub turn_again : {z made : ℕ} {keys : List (List ℕ)} {given : List Val} (loops : ℕ → Looping) → (loops s).turn ≡ turn → LoopBelow g states t items variant most bound p keys given loops
      → PassesTo p (Eval (Loop turn)) m 1 f vs n Back (λ v b. Eval (Loop turn)) (good z made) (λ v b. Returning (wrapped tag.Failure v) (slot_is z (Plain Unset) b))
      → ((after : ℕ) → after < bound → (v : Val) (st' : State) → run_call p f vs (at n after) ≡ Gives v st' → (r : Result g states t items variant most q from handed (at n after) v st')
      → (c' : back.Back g states t items variant s q c list own m.store.cells st'.store.cells r.inner (moves t items r.made from)) → (h : Turning g states t items variant most keys given (loops s) s c list own (moves t items r.made from) (at (good z made r.inner (moment st'.store st'.calls)) st'.left)) × (h.d ≡ c'.d))
      → (left : ℕ) → left ≤ bound → Block left (run p (Loop turn) (at m left))
  turn_again {z} {made} {keys} {given} loops same_turn law passes turning left less =
      settle passes.calls left (λ after same. by after same (run_call p f vs (at n after)) refl (answers after (omega (arith, same, less))))
    where
      by : (after : ℕ) → left ≡ after + 1 → (fl : Flow) → run_call p f vs (at n after) ≡ fl → Answers g states t items variant most q from handed (at n after) fl → Block left (then_value fl (go_on p passes.rest))
      by after same (Gives v st') is (inl r) =
          let b = moment st'.store st'.calls in
          let below : after < bound = omega (arith, same, less) in
          let c' = came after below v st' is r in
          let again = at (good z made r.inner b) st'.left in
          let e : go_on p passes.rest v st' ≡ run p (Loop turn) again = ap (λ u. go_on p passes.rest u st') r.value ∙ (passes.success r.inner b (answer_set r.reduced) (is_back after below v st' is r)).runs st'.left in
          let h = turning after below v st' is r c' in
          let fewer : again.left < bound = omega (arith, call_left p f vs (at n after) st' v is, below) in
          let now' = moves t items r.made from in
          let a = subst (λ (e : Tree). TurnAnswers g states t items variant most s c own (h.0).d now' again (run p (Loop e) again)) same_turn (law s c list own now' again fewer h.0) in
          let a' = subst (λ (d : ℕ). TurnAnswers g states t items variant most s c own d now' again (run p (Loop turn) again)) h.1 a in
          subst (Block left) (sym e) (further left after same below v st' is r c' again refl refl (run p (Loop turn) again) a')
      by after same (Gives v st') is (inr a) = failing left after same passes.rest z v st' is passes.failure a
      by after same (Returns v st') is a = absurd a
      by after same (Spent calls) is a = turn_spent_in 1 lead (at m left) (at n after) calls a refl (omega (arith, same))
      by after same (Stuck k calls) is a = absurd a
