-- The `parse` method of recursive ascent ends as the machine does, where calls of state functions do.
use Rattle.std.proofs.Common.{◌≡◌, ℕ, suc, ◌+◌, ◌*◌, ◌<◌, ◌≤◌, true, List, [], length, Option, Some, None, slice_get, refl, sym, ap, ◌∙◌, subst, inl, inr, arith, mul-add, mul-one, add-mul}
use Rattle.std.specs.Prelude.{slice_set, IsSome}
use Rattle.lp_repr.specs.declared.lr1.Lr1State.{Lr1State}
use Rattle.lp_repr.specs.declared.repr.Grammar.{Grammar}
use Rattle.lp_repr.specs.declared.values.RunItem.{RunItem}
use Rattle.lp_repr.specs.declared.values.ParseError.TheVariants as failure
use Rattle.lp_driver.specs.declared.answers.Expecting.TheVariants.{Trial}
use Rattle.lp_driver.specs.Values.{Ending, Failure, Spanned, Text, Token, Value}
use Rattle.lp_driver.specs.Values as driver
use Rattle.lp_machine.specs.declared.config.Config.{Config}
use Rattle.lp_machine.specs.declared.config.Left.TheVariants.{Over}
use Rattle.lp_machine.specs.GrammarTables.{grammar_tables}
use Rattle.lp_machine.specs.Move.{moves}
use Rattle.lp_machine.specs.Moves.{first}
use Rattle.lp_machine.specs.RunEnds.{ended}
use Rattle.lp_machine.specs.StackMachine.{result_at}
use Rattle.lp_machine.specs.Tables.{Tables}
use Rattle.lp_agrees.specs.Agrees.{Told, EndsSo}
use Rattle.lp_turn_laws.specs.Alike.Course.{Leads}
use Rattle.lp_core.specs.declared.value.Tag.TheVariants as tag
use Rattle.lp_core.specs.Flow.{State, Flow, Gives, Returns, Spent, Stuck, then_value, leave}
use Rattle.lp_core.specs.OpMeaning.{failure_val}
use Rattle.lp_core.specs.Prefix.{IsPrefix}
use Rattle.lp_core.specs.Reading.{wrapped}
use Rattle.lp_core.specs.Store.{Program, UserCall}
use Rattle.lp_core.specs.Val.{Val, Plain}
use Rattle.lp_core.specs.Datum.{Parsed, Unset}
use Rattle.lp_core.specs.Eval.{run_call}
use Rattle.lp_core.specs.declared.value.Tag.{Tag}
use Rattle.lp_question_laws.specs.Tables.Acts.{symbol_val}
use Rattle.lp_code_laws.specs.Ends.Slots.{HasSlots}
use Rattle.lp_code_laws.proofs.Ends.Lists.{length_set}
use Rattle.lp_code_laws.proofs.Ends.Tags.{slot_is}
use Rattle.lp_code_laws.proofs.Slots.Slots.{get_within}
use Rattle.lp_turn_laws.specs.Paths.Over.{IsOver}
use Rattle.lp_code_laws.specs.Ends.Ends.{Moment, moment, at}
use Rattle.lp_run.specs.ProgramRun.{call_finish}
use Rattle.lp_back_end_laws.specs.Call.Law.{Answers, Result}
use Rattle.lp_back_end_laws.specs.Call.Standing.{as_users, Kept, place_of, answer_val}
use Rattle.lp_back_end_laws.specs.Call.Stretches.{Rest, go_on}
use Rattle.lp_back_end_laws.proofs.Call.Envs.{env_back}
use Rattle.lp_back_end_laws.proofs.Call.Failing.{later, prefix_later}
use Rattle.lp_back_end_laws.proofs.Call.Moves.{ends_later, start_ends}
use Rattle.lp_back_end_laws.proofs.Call.ParseLines.{end_rest, end_fails, end_gives, end_extra}
use Rattle.lp_back_end_laws.proofs.Call.Shortage.{SpentFirst}
use Rattle.lp_back_end_laws.proofs.Call.FirstCalls.{IsFirst, first_is, only_start}

-- ---- steps
-- what a run of so many moves may cost, with three steps more for each
more_each : (most k : ℕ) → (most + 3) * k ≡ most * k + 3 * k
more_each most k = add-mul most 3 k

-- a pull made at most three steps
lack_cost : (most j left moved k : ℕ) → j ≤ 3 * moved → left + 1 < most * (k + 1) → suc (j + left) < (most + 3) * (moved + k + 1)
lack_cost most j left moved k few less =
    let e : moved + k + 1 ≡ k + 1 + moved = omega arith in
    subst (λ n. suc (j + left) < n) (sym (more_each most (moved + k + 1) ∙ ap (λ n. n + 3 * (moved + k + 1)) (ap (λ n. most * n) e ∙ mul-add most (k + 1) moved))) (sum (most * (k + 1)) (most * moved) less)
  where
    sum : (p q : ℕ) → left + 1 < p → suc (j + left) < p + q + 3 * (moved + k + 1)
    sum p q h = omega (arith, h, few)

few_cost : (most b k : ℕ) → 1 ≤ most → b < 4 → b < (most + 3) * (k + 1)
few_cost most b k some few =
    subst (λ n. b < n) (sym (mul-add (most + 3) k 1 ∙ ap (λ n. (most + 3) * k + n) (mul-one (most + 3)))) (omega (arith, some, few))

module _ (g : Grammar) (states : List Lr1State) (items : List RunItem) (params : List Text) (failing : List ℕ) (most : ℕ) (some : 1 ≤ most) (never : (grammar_tables g states Trial params failing).error ≡ None) (budget : ℕ) where
  abbrev t : Tables
  t = grammar_tables g states Trial params failing

  abbrev pub Tells : Flow → Type 0
  Tells fl = Told g states Trial items params failing (most + 3) budget (call_finish budget fl)

  -- it is spent before it calls state 0
  pub spent_first : (fl : Flow) (calls : List UserCall) → calls ≡ [] → budget < 4 → SpentFirst fl calls → Tells fl
  spent_first fl calls none few s =
      subst Tells (sym s.is)
      (refl, (0, subst (IsPrefix s.calls) (none ∙ sym (ap as_users (first_is t items never).calls)) s.first), λ k e h. few_cost most budget k some few)

  -- ---- from the call of state 0 on
  module _ {start : ℕ} (over : IsOver g start states t) (variant : ℕ → ℕ) (p : Program) (f : ℕ) (c : Config) (moved : ℕ) (lead : Leads t items (first t items) c moved) (is : IsFirst c) (vs : List Val) (n : Moment) (x : ℕ) (start_tag : Tag) (tagged : start_tag ≡ tag.Variant (variant over.number)) (room : x + 3 ≤ length n.store.env) where
    abbrev rest : Rest
    rest = end_rest start_tag x (x + 1)

    -- the slots of the answer
    there : (b : Moment) → b.store.env ≡ n.store.env → (old : Val) × (slice_get b.store.env x ≡ Some old)
    there b same = let w = get_within n.store.env x (omega (arith, room)) in (w.0, ap (λ env. slice_get env x) same ∙ w.1)

    slots : (b : Moment) → b.store.env ≡ n.store.env → HasSlots (x + 1) 2 (slice_set b.store.env x (Plain Unset))
    slots b same = record { slot = λ i low high. get_within (slice_set b.store.env x (Plain Unset)) i (omega (arith, room, high, length_set b.store.env x (Plain Unset), ap length same)) }

    -- the machine's end is that of so many moves from the first
    ends_so : (made : ℕ) (e : Ending) (calls : List UserCall) → ended (moves t items made c).left ≡ Some e → as_users (moves t items made c).calls ≡ calls → EndsSo g states Trial items params failing e calls
    ends_so made e calls end same = (moved + made, ap (λ d. ended d.left) (sym (later moved lead made)) ∙ end, ap (λ d. as_users d.calls) (sym (later moved lead made)) ∙ same)

    answered : (after : ℕ) (v : Val) (st' : State) → (r : Result g states t items variant most 0 c [] (at n after) v st') → Tells (leave [] 0 (go_on p rest v st'))
    answered after v st' r = by r.reduced.look r.reduced.kept r.reduced.answers
      where
        only : (r.reduced.rule.is_start ≡ true) × (r.reduced.rule.nonterminal ≡ over.number)
        only = only_start over c is r.reduced.production r.d r.reduced.rule r.reduced.known r.reduced.item r.takes

        stops : (moves t items r.made c).left ≡ Over (result_at (moves t items r.made c).mending (moves t items r.made c).lookahead r.reduced.value)
        stops = start_ends t items (moves t items r.made c) r.reduced.rule r.reduced.value r.reduced.pending only.0

        by : (look : Option (Spanned Token)) → Kept t items (moves t items r.made c) (place_of (moves t items r.made c) r.reduced.rule).1 look → r.inner ≡ answer_val (variant r.reduced.rule.nonterminal) (place_of (moves t items r.made c) r.reduced.rule) r.reduced.value look → Tells (leave [] 0 (go_on p rest v st'))
        by None kept inner =
            let from = (place_of (moves t items r.made c) r.reduced.rule).0 in
            let to = (place_of (moves t items r.made c) r.reduced.rule).1 in
            let b = moment st'.store st'.calls in
            let w = end_gives p x (x + 1) start_tag (variant r.reduced.rule.nonterminal) from to r.reduced.value (there b r.env).0 b (tagged ∙ ap (λ k. tag.Variant (variant k)) (sym only.1)) (there b r.env).1 (slots b r.env) in
            let e : go_on p rest v st' ≡ Gives (wrapped tag.Success (Plain (Parsed r.reduced.value))) (at w.after st'.left) = ap (λ u. go_on p rest u st') (r.value ∙ ap (λ u. wrapped tag.Success u) inner) ∙ w.goes.runs st'.left in
            let over_is : ended (moves t items r.made c).left ≡ Some (driver.Gives r.reduced.value) = ap ended stops ∙ ap (λ m. ended (Over (result_at m (moves t items r.made c).lookahead r.reduced.value))) r.reduced.mending ∙ ap (λ o. ended (Over (result_at None o r.reduced.value))) kept.0.nothing in
            subst (λ fl. Tells (leave [] 0 fl)) (sym e) (ends_so r.made (driver.Gives r.reduced.value) w.after.calls over_is (sym r.calls ∙ sym w.calls))
        by (Some y) kept inner =
            let b = moment st'.store st'.calls in
            let w = end_extra p x (x + 1) start_tag y (wrapped (tag.Variant (variant r.reduced.rule.nonterminal)) (symbol_val ((place_of (moves t items r.made c) r.reduced.rule).0, r.reduced.value, (place_of (moves t items r.made c) r.reduced.rule).1))) (there b r.env).0 b (there b r.env).1 (slots b r.env) in
            let e : go_on p rest v st' ≡ Gives (wrapped tag.Failure (failure_val (failure.ExtraToken y))) (at w.after st'.left) = ap (λ u. go_on p rest u st') (r.value ∙ ap (λ u. wrapped tag.Success u) inner) ∙ w.goes.runs st'.left in
            let over_is : ended (moves t items r.made c).left ≡ Some (driver.Fails (failure.ExtraToken y)) = ap ended stops ∙ ap (λ m. ended (Over (result_at m (moves t items r.made c).lookahead r.reduced.value))) r.reduced.mending ∙ ap (λ o. ended (Over (result_at None o r.reduced.value))) kept.in_hand in
            subst (λ fl. Tells (leave [] 0 fl)) (sym e) (ends_so r.made (driver.Fails (failure.ExtraToken y)) w.after.calls over_is (sym r.calls ∙ sym w.calls))

    -- however the call of state 0 answers
    pub called_told : (after j : ℕ) → budget ≡ suc (j + after) → j ≤ 3 * moved → (fl : Flow) → run_call p f vs (at n after) ≡ fl → Answers g states t items variant most 0 c [] (at n after) fl → Tells (leave [] 0 (then_value fl (go_on p rest)))
    called_told after j steps few (Gives v st') same (inl r) = answered after v st' r
    called_told after j steps few (Gives v st') same (inr a) =
        let b = moment st'.store st'.calls in
        let env = env_back p f vs (at n after) st' v same in
        let e : go_on p rest v st' ≡ Returns (wrapped tag.Failure (failure_val a.failure)) (at (slot_is x (Plain Unset) b) st'.left) = ap (λ u. go_on p rest u st') a.value ∙ (end_fails p x (x + 1) start_tag (failure_val a.failure) (there b env).0 b refl (there b env).1).runs st'.left in
        subst (λ fl. Tells (leave [] 0 fl)) (sym e) (ends_so a.made (driver.Fails a.failure) st'.calls (ap ended a.over) (sym a.calls))
    called_told after j steps few (Returns v st') same a = absurd a
    called_told after j steps few (Spent calls) same s = (
      refl,
      (moved + s.made, prefix_later moved lead s.made calls s.first),
      λ k e h.
          let w = ends_later t items (first t items) c moved k lead (subst IsSome (sym h) refl) in
          subst (λ n. n < (most + 3) * (k + 1)) (sym steps) (subst (λ n. suc (j + after) < (most + 3) * (n + 1)) (sym w.1) (lack_cost most j after moved w.0 few (s.early w.0 w.2))),
    )
    called_told after j steps few (Stuck k calls) same a = absurd a
