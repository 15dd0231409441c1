-- A match that calls the function of an edge's target: it answers what the callee answered, or goes on with its loop.
use Rattle.std.proofs.Common.{◌≡◌, ℕ, ◌+◌, ◌-◌, ◌*◌, ◌<◌, ◌≤◌, List, [], ◌∷◌, length, map, pos, Some, slice_get, refl, sym, ap, ◌∙◌, subst, inl, inr, arith, true}
use Rattle.std.specs.Prelude.{slice_set, IsSome}
use Rattle.lp_repr.specs.declared.lr1.Lr1State.{Lr1State}
use Rattle.lp_repr.specs.declared.numbering.SymbolNumber.{SymbolNumber}
use Rattle.lp_repr.specs.declared.repr.Grammar.{Grammar}
use Rattle.lp_repr.specs.declared.values.RunItem.{RunItem}
use Rattle.lp_driver.specs.Values.{Spanned, Value}
use Rattle.lp_machine.specs.declared.config.Config.{Config}
use Rattle.lp_machine.specs.Lookup.{goto_at}
use Rattle.lp_machine.specs.Move.{moves}
use Rattle.lp_machine.specs.RunEnds.{ended}
use Rattle.lp_machine.specs.declared.lookup.Rule.{Rule}
use Rattle.lp_machine.specs.Tables.{Tables}
use Rattle.lp_turn_laws.specs.Alike.Course.{Leads}
use Rattle.lp_core.specs.declared.value.Tag.TheVariants as tag
use Rattle.lp_core.specs.Datum.{Unset}
use Rattle.lp_core.specs.Effect.{set_value, unit}
use Rattle.lp_core.specs.Eval.{run, run_call}
use Rattle.lp_core.specs.Flow.{State, Flow, Gives, Returns, Spent, Stuck, then_value}
use Rattle.lp_core.specs.OpMeaning.{failure_val}
use Rattle.lp_core.specs.Reading.{wrapped}
use Rattle.lp_core.specs.Store.{Program, Held, States}
use Rattle.lp_core.specs.Tree.{Trees, Loop, trees_of}
use Rattle.lp_core.specs.Val.{Val, Plain}
use Rattle.lp_code_laws.specs.Ends.Ends.{Moment, moment, at, Sequence, Returning, EndsIn, run_task}
use Rattle.lp_code_laws.proofs.Ends.Steps.{steps_are}
use Rattle.lp_code_laws.proofs.Ends.Lists.{get_same}
use Rattle.lp_code_laws.proofs.Ends.Tags.{slot_is}
use Rattle.lp_question_laws.specs.Tables.Acts.{symbol_val}
use Rattle.lp_ascent.specs.Slots.{is_cell}
use Rattle.lp_turn_laws.specs.Paths.Over.{IsOver}
use Rattle.lp_turn_laws.specs.Paths.Walks.{edge_at, Has}
use Rattle.lp_ascent.specs.GotoLines as lines
use Rattle.lp_ascent.specs.Slots.{layouts_of}
use Rattle.lp_back_end_laws.specs.Call.Slots.{layout}
use Rattle.lp_back_end_laws.specs.Call.Frames.{AreSlots, AreApart}
use Rattle.lp_back_end_laws.specs.Call.Handing.{Pushed, TakenOut, handed_slots}
use Rattle.lp_back_end_laws.specs.Call.Standing.{OnTop, Reduced}
use Rattle.lp_back_end_laws.specs.Call.Stretches.{Rest, go_on, CallsIn, GoesOn, Passes, PassesTo}
use Rattle.lp_back_end_laws.specs.Call.Back as back
use Rattle.lp_back_end_laws.specs.Call.Law.{Answers, Result, FailedWith, Takes}
use Rattle.lp_back_end_laws.specs.Call.Turns.{Looping, ShowsFrame, Turning, TurnAnswers}
use Rattle.lp_back_end_laws.proofs.Call.Back.{comes_back}
use Rattle.lp_back_end_laws.proofs.Call.CallBudgets.{call_left, call_bound}
use Rattle.lp_back_end_laws.proofs.Call.Callers.{leads_last}
use Rattle.lp_back_end_laws.proofs.Call.Edges.{edge_hands}
use Rattle.lp_back_end_laws.proofs.Call.Envs.{env_back}
use Rattle.lp_back_end_laws.proofs.Call.Entering.{handed_own, list_apart, list_out}
use Rattle.lp_back_end_laws.proofs.Call.MatchResults.{match_fails_on, match_spent_in, match_passes_on, match_loops_on, match_loop_fails, match_loop_spent}
use Rattle.lp_back_end_laws.proofs.Call.Matching.{MatchAnswers, LoopBelow}
use Rattle.lp_back_end_laws.proofs.Call.Settling.{Settled, Short, Comes, calls_settle}
use Rattle.lp_back_end_laws.proofs.Call.Transitions.{IsBack, result_slots, with_result}

-- what a state's function answers can be read and stays
pub answer_set : {states : List Lr1State} {t : Tables} {items : List RunItem} {variant : ℕ → ℕ} {s : ℕ} {c : Config} {d : ℕ} {v : Val} {after : Config} → Reduced states t items variant s c d v after → set_value v ≡ Some v
answer_set r = subst (λ v. set_value v ≡ Some v) (sym r.answers) refl

module _ {g : Grammar} {start : ℕ} {states : List Lr1State} {t : Tables} (over : IsOver g start states t) (items : List RunItem) (variant : ℕ → ℕ) (most : ℕ) (some : 2 ≤ most) (p : Program) (f : ℕ) (vs : List Val) (s : ℕ) (x : SymbolNumber) (q : ℕ) (edge : edge_at states s x ≡ Some q)
    {c from : Config} (lead : Leads t items c from 1) (y : Spanned Value) (pushed : Pushed c from q y) (list : ℕ) (own out : List Val) (m n : Moment) (cells_out : List Held) (are : AreSlots (layout g states s) (is_cell (layout g states s)) 0 c.triples m.store.cells own) (apart : AreApart own)
    (there : slice_get m.store.cells list ≡ Some (States (map pos c.states))) (took : TakenOut (layout g states s) ((layout g states q).fixed - 1) c.triples own out m.store.cells cells_out) (cells_are : n.store.cells ≡ slice_set cells_out list (States (map pos from.states)))
    (bound : ℕ) (answers : (left : ℕ) → left < bound → Answers g states t items variant most q from (handed_slots (layout g states s) (layout g states q) out (symbol_val y)) (at n left) (run_call p f vs (at n left))) where
  abbrev handed : List Val
  handed = handed_slots (layout g states s) (layout g states q) out (symbol_val y)

  abbrev Block : ℕ → Flow → Type 0
  Block left fl = MatchAnswers g states t items variant most s c own (at m left) fl

  module _ (left : ℕ) (less : left < bound) (v : Val) (st' : State) (is : run_call p f vs (at n left) ≡ Gives v st') (r : Result g states t items variant most q from handed (at n left) v st') where
    abbrev b : Moment
    b = moment st'.store st'.calls

    -- the frame is as it was, but for the list of states
    is_back : IsBack n list (map pos from.states) b
    is_back =
        let hands = edge_hands over s x q edge in
        let l = layout g states s in
        let k = layout g states q in
        let above = map pos c.states in
        let now = map pos from.states in
        record {
          env = r.env;
          list = r.cells.kept list (λ j at. (let o = handed_own l k hands y list above now are apart took there j list at in absurd (list_apart l k hands y list above now are apart took there o.0 list o.3 refl)))
              ∙ ap (λ held. slice_get held list) cells_are ∙ get_same cells_out list (list_out l k hands y list above now are apart took there);
        }

    came : back.Back g states t items variant s q c list own m.store.cells st'.store.cells r.inner (moves t items r.made from)
    came = comes_back over items variant most s x q c from y list own out (at n left) m.store.cells cells_out v st' edge pushed are apart there took cells_are r

    -- its steps were enough for the machine's moves until any end
    at_least : (k : ℕ) → IsSome (ended (moves t items k from).left) → left + 1 ≤ st'.left + most * (k + 1)
    at_least = call_bound (omega (arith, some)) p f vs n q from handed left v st' is (λ b' l. answers b' (omega (arith, l, less)))

  abbrev good : ℕ → ℕ → Val → Moment → Moment
  good x made v b = with_result x made list (map pos c.states) v b

  abbrev Back : Moment → Type 0
  Back b = IsBack n list (map pos from.states) b

  -- how a flow goes on behind the call, if it answers what the callee answers
  abbrev GoesSo : ℕ → (ℕ → Flow) → Type 0
  GoesSo left next = (after : ℕ) → after ≡ left → Block left (next after)

  settle : {es : Trees} {w : Val} {k : ℕ} {rest : Rest} → k ≡ 0 → CallsIn p (Sequence es w) m k f vs n rest → (left : ℕ) → GoesSo left (λ after. then_value (run_call p f vs (at n after)) (go_on p rest)) → Block left (run_task p (Sequence es w) (at m left))
  settle {es} {w} {k} {rest} none calls left goes = by (calls_settle calls left)
    where
      by : Settled (run_task p (Sequence es w) (at m left)) left k n.calls (λ after. then_value (run_call p f vs (at n after)) (go_on p rest)) → Block left (run_task p (Sequence es w) (at m left))
      by (Short few spent) = absurd (omega (arith, few, none))
      by (Comes after e is) = subst (Block left) (sym is) (goes after (omega (arith, e, none, steps_are k after)))

  -- a callee that fails
  failing : (left after : ℕ) → after ≡ left → (rest : Rest) (z : ℕ) (v : Val) (st' : State) → run_call p f vs (at n after) ≡ Gives v st'
      → ((e : Val) (b : Moment) → set_value e ≡ Some e → b.store.env ≡ n.store.env → GoesOn p rest (wrapped tag.Failure e) b 0 (Returning (wrapped tag.Failure e) (slot_is z (Plain Unset) b)))
      → FailedWith g states t items variant most from (at n after) v st' → Block left (go_on p rest v st')
  failing left after same rest z v st' is bad a =
      let b = moment st'.store st'.calls in
      let e : go_on p rest v st' ≡ Returns v (at (slot_is z (Plain Unset) b) st'.left) =
      ap (λ w. go_on p rest w st') a.value ∙ (bad (failure_val a.failure) b refl (env_back p f vs (at n after) st' v is)).runs st'.left ∙ ap (λ w. Returns w (at (slot_is z (Plain Unset) b) st'.left)) (sym a.value) in
      subst (Block left) (sym e) (inr (match_fails_on some lead (at m left) (at n after) same v st' (at (slot_is z (Plain Unset) b) st'.left) a refl refl))

  -- ---- several of its slots are fixed: the frame returns
  pub returned : {es : Trees} {w : Val} {k z made : ℕ} → 1 < (layout g states q).fixed → k ≡ 0
      → Passes p (Sequence es w) m k f vs n Back (λ v b. Returning (wrapped tag.Success v) (good z made v b)) (λ v b. Returning (wrapped tag.Failure v) (slot_is z (Plain Unset) b))
      → (left : ℕ) → left < bound → Block left (run_task p (Sequence es w) (at m left))
  returned {es} {w} {k} {z} {made} several none passes left less =
      settle none passes.calls left (λ after same. by after same (run_call p f vs (at n after)) refl (answers after (omega (arith, same, less))))
    where
      by : (after : ℕ) → after ≡ left → (fl : Flow) → run_call p f vs (at n after) ≡ fl → Answers g states t items variant most q from handed (at n after) fl → Block left (then_value fl (go_on p passes.rest))
      by after same (Gives v st') is (inl r) =
          let b = moment st'.store st'.calls in
          let below : after < bound = omega (arith, same, less) in
          let c' = came after below v st' is r in
          let e : go_on p passes.rest v st' ≡ Returns v (at (good z made r.inner b) st'.left) =
          ap (λ u. go_on p passes.rest u st') r.value ∙ (passes.success r.inner b (answer_set r.reduced) (is_back after below v st' is r)).runs st'.left ∙ ap (λ u. Returns u (at (good z made r.inner b) st'.left)) (sym r.value) in
          subst (Block left) (sym e) (inl (match_passes_on some lead (at m left) (at n after) same s q list own handed st' v r c' (at (good z made r.inner b) st'.left) (inr (c'.returns several)) refl refl refl refl))
      by after same (Gives v st') is (inr a) = failing left after same passes.rest z v st' is passes.failure a
      by after same (Returns v st') is a = absurd a
      by after same (Spent calls) is a = match_spent_in some lead (at m left) (at n after) same calls a
      by after same (Stuck k calls) is a = absurd a

  -- ---- one of its slots is fixed: the frame goes on
  module _ (one : (layout g states q).fixed ≡ 1) {es rest_es : Trees} {w : Val} {k z made : ℕ} (none : k ≡ 0)
      (passes : PassesTo p (Sequence es w) m k f vs n Back (λ v b. Sequence rest_es unit) (good z made) (λ v b. Returning (wrapped tag.Failure v) (slot_is z (Plain Unset) b))) where
    goes_by : (left : ℕ) → left < bound
        → ((after : ℕ) → after ≡ left → after < bound → (v : Val) (st' : State) → run_call p f vs (at n after) ≡ Gives v st' → (r : Result g states t items variant most q from handed (at n after) v st') → Block left (run_task p (Sequence rest_es unit) (at (good z made r.inner (moment st'.store st'.calls)) st'.left)))
        → Block left (run_task p (Sequence es w) (at m left))
    goes_by left less next =
        settle none passes.calls left (λ after same. by after same (run_call p f vs (at n after)) refl (answers after (omega (arith, same, less))))
      where
        by : (after : ℕ) → after ≡ left → (fl : Flow) → run_call p f vs (at n after) ≡ fl → Answers g states t items variant most q from handed (at n after) fl → Block left (then_value fl (go_on p passes.rest))
        by after same (Gives v st') is (inl r) =
            let b = moment st'.store st'.calls in
            let below : after < bound = omega (arith, same, less) in
            let e : go_on p passes.rest v st' ≡ run_task p (Sequence rest_es unit) (at (good z made r.inner b) st'.left) =
            ap (λ u. go_on p passes.rest u st') r.value ∙ (passes.success r.inner b (answer_set r.reduced) (is_back after below v st' is r)).runs st'.left in
            subst (Block left) (sym e) (next after same below v st' is r)
        by after same (Gives v st') is (inr a) = failing left after same passes.rest z v st' is passes.failure a
        by after same (Returns v st') is a = absurd a
        by after same (Spent calls) is a = match_spent_in some lead (at m left) (at n after) same calls a
        by after same (Stuck k calls) is a = absurd a

    -- what was made is given
    pub gives : (takes : (d y : ℕ) (rule : Rule) → t.rule y ≡ Some rule → Has states s y d → Takes s d rule)
        → ((v : Val) (b : Moment) → set_value v ≡ Some v → b.store.env ≡ n.store.env → EndsIn p (Sequence rest_es unit) (good z made v b) 0 (Returning (wrapped tag.Success v) (good z made v b)))
        → (left : ℕ) → left < bound → Block left (run_task p (Sequence es w) (at m left))
    gives takes given left less = goes_by left less next
      where
        next : (after : ℕ) → after ≡ left → after < bound → (v : Val) (st' : State) → run_call p f vs (at n after) ≡ Gives v st' → (r : Result g states t items variant most q from handed (at n after) v st') → Block left (run_task p (Sequence rest_es unit) (at (good z made r.inner (moment st'.store st'.calls)) st'.left))
        next after same below v st' is r =
            let b = moment st'.store st'.calls in
            let c' = came after below v st' is r in
            let e : run_task p (Sequence rest_es unit) (at (good z made r.inner b) st'.left) ≡ Returns v (at (good z made r.inner b) st'.left) =
            (given r.inner b (answer_set r.reduced) r.env).runs st'.left ∙ ap (λ u. Returns u (at (good z made r.inner b) st'.left)) (sym r.value) in
            subst (Block left) (sym e)
            (inl (match_passes_on some lead (at m left) (at n after) same s q list own handed st' v r c' (at (good z made r.inner b) st'.left) (takes c'.d c'.reduced.production c'.reduced.rule c'.reduced.known c'.reduced.item) refl refl refl refl))

    -- the loop follows
    pub loops_on : {keys : List (List ℕ)} {given : List Val} (loops : ℕ → Looping) → rest_es ≡ trees_of (Loop (loops s).turn ∷ []) → LoopBelow g states t items variant most bound p keys given loops
        → (n' : ℕ) → IsSome (goto_at states s n') → (s' : Lr1State) × (slice_get states s ≡ Some s') × (lines.goes_on g (layouts_of g states) s' ≡ true) → OnTop states s c
        → ((v : Val) (env : List Val) → env ≡ n.store.env → (length (result_slots z made v env) ≡ (loops s).many) × (slice_get (result_slots z made v env) (loops s).made ≡ Some v) × ShowsFrame (loops s).names (result_slots z made v env) keys given list own)
        → (left : ℕ) → left < bound → Block left (run_task p (Sequence es w) (at m left))
    loops_on {keys} {given} loops behind law goto is_goto goes top kept left less = goes_by left less next
      where
        next : (after : ℕ) → after ≡ left → after < bound → (v : Val) (st' : State) → run_call p f vs (at n after) ≡ Gives v st' → (r : Result g states t items variant most q from handed (at n after) v st') → Block left (run_task p (Sequence rest_es unit) (at (good z made r.inner (moment st'.store st'.calls)) st'.left))
        next after same below v st' is r =
            let b = moment st'.store st'.calls in
            let c' = came after below v st' is r in
            let turn = at (good z made r.inner b) st'.left in
            let k = kept r.inner st'.store.env r.env in
            let turning : Turning g states t items variant most keys given (loops s) s c list own (moves t items r.made from) turn = record {
              some_goto = (goto, is_goto);
              goes = goes;
              on_top = top;
              d = c'.d;
              inner = r.inner;
              reduced = c'.reduced;
              many = k.0;
              result = k.1;
              shown = k.2;
              own_are = c'.goes_on one;
              apart = apart;
              follows = record { states_are = c'.list_there; taken = r.taken; calls = r.calls };
            } in
            let fewer : turn.left < bound = omega (arith, call_left p f vs (at n after) st' v is, below) in
            let e : run_task p (Sequence rest_es unit) turn ≡ run p (Loop (loops s).turn) turn = ap (λ ts. run_task p (Sequence ts unit) turn) behind ∙ (leads_last {p = p} {e = Loop (loops s).turn} {m = good z made r.inner b} {v = unit}).runs st'.left in
            subst (Block left) (sym e) (by after same below v st' is r c' turn refl refl (run p (Loop (loops s).turn) turn) (law s c list own (moves t items r.made from) turn fewer turning))
          where
            by : (after : ℕ) → after ≡ left → after < bound → (v : Val) (st' : State) → run_call p f vs (at n after) ≡ Gives v st' → (r : Result g states t items variant most q from handed (at n after) v st')
                → (c' : back.Back g states t items variant s q c list own m.store.cells st'.store.cells r.inner (moves t items r.made from)) → (turn : State) → turn.store.cells ≡ slice_set st'.store.cells list (States (map pos c.states)) → turn.left ≡ st'.left
                → (fl : Flow) → TurnAnswers g states t items variant most s c own c'.d (moves t items r.made from) turn fl → Block left fl
            by after same below v st' is r c' turn cells l (Gives u end) a = absurd a
            by after same below v st' is r c' turn cells l (Returns u end) (inl a) = inl (match_loops_on some lead (at m left) (at n after) same s q list own handed st' v r c' turn cells l u end a)
            by after same below v st' is r c' turn cells l (Returns u end) (inr a) = inr (match_loop_fails some lead (at m left) (at n after) same s q list own handed st' v r c' turn cells l u end a)
            by after same below v st' is r c' turn cells l (Spent calls) a = match_loop_spent some lead (at m left) (at n after) same s q list own handed st' v r c' turn cells l (at_least after below v st' is r) calls a
            by after same below v st' is r c' turn cells l (Stuck k calls) a = absurd a
