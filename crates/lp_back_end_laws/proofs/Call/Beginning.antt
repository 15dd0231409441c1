-- A call of a state's function: it is spent at once, a fault of the token source is returned, or it comes to the match.
use Rattle.std.proofs.Common.{◌≡◌, ◌⊎◌, ℕ, suc, ◌+◌, ◌*◌, ◌<◌, ◌≤◌, Bool, true, false, List, [], ◌∷◌, ◌++◌, length, Option, Some, None, slice_get, refl, sym, ap, ◌∙◌, subst, ⊎_elim, inl, inr, arith, codes, append_assoc, mul-add, mul-one}
use Rattle.std.specs.Prelude.{not, if◌then◌else◌}
use Rattle.lp_repr.specs.declared.lr1.Lr1State.{Lr1State}
use Rattle.lp_repr.specs.declared.repr.Grammar.{Grammar}
use Rattle.lp_repr.specs.declared.values.RunItem.{RunItem}
use Rattle.lp_driver.specs.declared.answers.Expecting.TheVariants.{Trial}
use Rattle.lp_driver.specs.Values.{Spanned, Text, Token}
use Rattle.lp_core.specs.declared.value.StateType.{StateType}
use Rattle.lp_core.specs.Datum.{Unset}
use Rattle.lp_core.specs.Eval.{run, run_block, run_call}
use Rattle.lp_core.specs.Flow.{State, Flow, Gives, leave, then_value}
use Rattle.lp_core.specs.Prefix.{IsPrefix}
use Rattle.lp_core.specs.Store.{Program, Held, UserCall}
use Rattle.lp_core.specs.Tree.{Tree, trees_of}
use Rattle.lp_core.specs.Val.{Val, Plain}
use Rattle.lp_machine.specs.declared.config.Config.{Config}
use Rattle.lp_machine.specs.GrammarTables.{grammar_tables}
use Rattle.lp_machine.specs.Tables.{Tables}
use Rattle.lp_turn_laws.specs.Alike.Course.{Leads}
use Rattle.lp_ascent.specs.Slots.{has_lookahead}
use Rattle.lp_ascent_bodies.specs.AscentStates.{after_parts, token_match}
use Rattle.lp_code_laws.specs.Ends.Calls.{begun}
use Rattle.lp_code_laws.specs.Ends.Ends.{Moment, at, moment}
use Rattle.lp_code_laws.proofs.Ends.Blocks.{run_append}
use Rattle.lp_code_laws.proofs.Ends.Steps.{steps_are}
use Rattle.lp_back_end_laws.specs.Call.Frames.{AreSlots, AreApart, AreOwn, comes_as_cell}
use Rattle.lp_back_end_laws.specs.Call.Law.{Answers, SpentOn}
use Rattle.lp_back_end_laws.specs.Call.Slots.{layout}
use Rattle.lp_back_end_laws.specs.Call.Standing.{as_users, IsTaken, Follows, OnTop, Sees, look_val}
use Rattle.lp_back_end_laws.proofs.Call.FunctionArms.{shared_at, names_at, arms_at, many_at, after_at}
use Rattle.lp_back_end_laws.proofs.Call.FunctionCode.{at_match, function_read, function_there, slots_of}
use Rattle.lp_back_end_laws.proofs.Call.Matching.{AtMatch}
use Rattle.lp_back_end_laws.proofs.Call.RowsBefore.{body_is}
use Rattle.lp_back_end_laws.proofs.Call.Setting.{Setting}
use Rattle.lp_back_end_laws.proofs.Call.Arriving.{Arrived, arrives}
use Rattle.lp_back_end_laws.proofs.Call.Pulling.{handed_vals, begun_at, vals_many, handed_ran}
use Rattle.lp_back_end_laws.proofs.Call.StateHeaders.{look_keys}
use Rattle.lp_back_end_laws.proofs.Call.Settling.{Settled, Short, Comes, ends_settle}
use Rattle.lp_back_end_laws.proofs.Call.Shortage.{call_runs}

-- a move costs no more than more moves
pub least_cost : (most k : ℕ) → 5 ≤ most → 5 ≤ most * (k + 1)
least_cost most k some = subst (λ n. 5 ≤ n) (sym (mul-add most k 1 ∙ ap (λ n. most * k + n) (mul-one most))) (sum (most * k))
  where
    sum : (n : ℕ) → 5 ≤ n + most
    sum n = omega (arith, some)

module _ {g : Grammar} {start : ℕ} {states : List Lr1State} {params : List Text} {failing : List ℕ} {items : List RunItem} {p : Program} {keys : List (List ℕ)} {given : List Val} {function action variant : ℕ → ℕ} {kind : StateType} {expected most cost : ℕ}
    (setting : Setting g start states params failing items p keys given function action variant kind expected most cost) (q : ℕ) (s : Lr1State) (there : slice_get states q ≡ Some s) where
  abbrev t : Tables
  t = grammar_tables g states Trial params failing

  -- the match, and what follows it
  abbrev pub match_block : List Tree
  match_block = token_match (shared_at setting q s there) (arms_at setting q s there) ∷ after_parts (after_at setting q s there)

  abbrev pub lines : List Tree
  lines = (at_match setting q s there).lines.parts

  -- it comes to the match, after a move where it pulled
  pub record Matched (c : Config) (list : ℕ) (slots : List Val) (st : State) (fl : Flow) : Type 0 where
    pub moved : ℕ
    pub now : Config
    pub leads : Leads t items c now moved
    pub states_same : now.states ≡ c.states
    pub triples_same : now.triples ≡ c.triples
    pub look : Option (Spanned Token)
    pub own : List Val
    pub new : List Held
    pub moment : Moment
    pub left : ℕ
    pub value : Val
    pub is : fl ≡ leave st.store.env (length st.store.cells) (run_block p (trees_of match_block) value (at moment left))
    pub matched : AtMatch g states t items kind keys given (shared_at setting q s there) (names_at setting q s there) (many_at setting q s there) q now list own look moment
    pub are_own : AreOwn (length st.store.cells) slots own
    pub cells : moment.store.cells ≡ st.store.cells ++ new
    pub some : left < st.left
    pub steps_so : ((moved ≡ 0) × (st.left ≡ left + 1)) ⊎ ((moved ≡ 1) × (st.left ≤ left + 4))

  pub data Begins (c : Config) (list : ℕ) (slots : List Val) (st : State) (fl : Flow) : Type 0 where
    answered : Answers g states t items variant most q c slots st fl → Begins c list slots st fl
    comes : Matched c list slots st fl → Begins c list slots st fl

  -- ---- the call and its lines
  pub call_is : (vs : List Val) (m : Moment) (b : ℕ) → (function_read setting q s there).params ≡ length vs
      → run_call p (function q) vs (at m (suc b)) ≡ leave m.store.env (length m.store.cells) (then_value (run_block p (trees_of lines) (Plain Unset) (at (begun (function_read setting q s there) vs m) b)) (λ w st'. run_block p (trees_of match_block) w st'))
  call_is vs m b many = call_runs p (function q) (function_read setting q s there) vs m 0 (λ left. then_value (run_block p (trees_of lines) (Plain Unset) (at (begun (function_read setting q s there) vs m) left)) (λ w st'. run_block p (trees_of match_block) w st')) (function_there setting q s there) many runs b
    where
      runs : (left : ℕ) → run p (function_read setting q s there).body (at (begun (function_read setting q s there) vs m) left) ≡ then_value (run_block p (trees_of lines) (Plain Unset) (at (begun (function_read setting q s there) vs m) left)) (λ w st'. run_block p (trees_of match_block) w st')
      runs left =
          let m0 = at (begun (function_read setting q s there) vs m) left in
          ap (λ (e : Tree). run p e m0) (body_is setting q s there)
          ∙ ap (λ (es : List Tree). run_block p (trees_of es) (Plain Unset) m0) (append_assoc lines (token_match (shared_at setting q s there) (arms_at setting q s there) ∷ []) (after_parts (after_at setting q s there)))
          ∙ run_append p lines match_block (Plain Unset) m0

  abbrev pub goes_on : State → Flow → Flow
  goes_on st fl = leave st.store.env (length st.store.cells) (then_value fl (λ w st'. run_block p (trees_of match_block) w st'))

  -- ---- spent before the match
  pub spent_early : (c : Config) (st : State) (calls : List UserCall) → IsPrefix calls (as_users c.calls) → st.left ≤ 3 → SpentOn g states t items variant most c st calls
  spent_early c st calls first few = record { made = 0; first = first; early = λ k h. (let five = least_cost most k setting.some in omega (arith, five, few)) }

  -- its lines end so after at most three steps
  pub begins_in : (c now : Config) (list : ℕ) (slots : List Val) (st : State) (look : Option (Spanned Token)) (m0 : Moment) (count b moved : ℕ) (fl : Flow) → st.left ≡ suc b → count ≤ 3 → fl ≡ goes_on st (run_block p (trees_of lines) (Plain Unset) (at m0 b)) → Leads t items c now moved → now.states ≡ c.states → now.triples ≡ c.triples → now.calls ≡ c.calls
      → ((moved ≡ 0) × (count ≡ 0)) ⊎ (moved ≡ 1) → Arrived setting q s there now list slots look m0 count st.store.cells → Begins c list slots st fl
  begins_in c now list slots st look m0 count b moved fl left_is few is leads same_states same_triples same_calls how a = by (ends_settle a.ran.ends b)
    where
      by : Settled (run_block p (trees_of lines) (Plain Unset) (at m0 b)) b count a.moment.calls (λ left. Gives a.ran.value (at a.moment left)) → Begins c list slots st fl
      by (Short less spent) =
          answered (subst (Answers g states t items variant most q c slots st) (sym (is ∙ ap (goes_on st) spent.is)) (spent_early c st spent.calls (subst (IsPrefix spent.calls) (a.matched.follows.calls ∙ ap as_users same_calls) spent.first) (omega (arith, less, few, left_is))))
      by (Comes left steps_is there) = comes (record {
        moved = moved;
        now = now;
        leads = leads;
        states_same = same_states;
        triples_same = same_triples;
        look = look;
        own = a.own;
        new = a.new;
        moment = a.moment;
        left = left;
        value = a.ran.value;
        is = is ∙ ap (goes_on st) there;
        matched = a.matched;
        are_own = a.are_own;
        cells = a.cells;
        some = omega (arith, left_is, steps_is, steps_are count left);
        steps_so = ⊎_elim (λ (w : (moved ≡ 0) × (count ≡ 0)). inl (w.0, omega (arith, left_is, steps_is, steps_are count left, w.1))) (λ (w : moved ≡ 1). inr (w, omega (arith, left_is, steps_is, steps_are count left, few))) how;
      })

  -- ---- it is handed the lookahead
  pub at_left : (st : State) (b : ℕ) → st.left ≡ suc b → st ≡ at (moment st.store st.calls) (suc b)
  at_left st b is = ap (at (moment st.store st.calls)) is

  pub begins_handed : (c : Config) (list : ℕ) (slots : List Val) (st : State) (b : ℕ) (look : Option (Spanned Token)) → st.left ≡ suc b → has_lookahead (slots_of setting q s there) ≡ true → IsTaken items look → Sees t items c look
      → OnTop states q c → c.mending ≡ None → AreSlots (layout g states q) (comes_as_cell (layout g states q)) 0 c.triples st.store.cells slots → AreApart slots → Follows c list st
      → Begins c list slots st (run_call p (function q) (handed_vals given list (look_val look ∷ []) slots) st)
  begins_handed c list slots st b look left_is handed look_taken seen on_top mending are apart follows =
      let l = slots_of setting q s there in
      let looks : length (look_val look ∷ []) ≡ length (look_keys l) = sym (ap (λ (b : Bool). length (if b then codes "~lookahead" ∷ [] else [])) handed) in
      let m0 = begun_at setting q s there list slots are.count st (look_val look ∷ []) looks in
      let r = handed_ran setting q s there list slots are.count st look handed looks in
      let pulls_none : not (has_lookahead l) ≡ false = ap not handed in
      let a = arrives setting q s there false pulls_none c list slots look m0 on_top mending look_taken seen r.0 (subst (λ (m : Moment). Follows c list (at m 0)) (sym r.2) (record { states_are = follows.states_are; taken = follows.taken; calls = follows.calls }))
      (subst (λ (m : Moment). AreSlots (layout g states q) (comes_as_cell (layout g states q)) 0 c.triples m.store.cells slots) (sym r.2) are) apart in
      let a2 : Arrived setting q s there c list slots look m0 0 st.store.cells = subst (λ (n : ℕ). Arrived setting q s there c list slots look m0 n st.store.cells) r.1 (subst (λ (m : Moment). Arrived setting q s there c list slots look m0 r.0.count m.store.cells) r.2 a) in
      begins_in c c list slots st look m0 0 b 0 (run_call p (function q) (handed_vals given list (look_val look ∷ []) slots) st) left_is (omega arith)
      (ap (run_call p (function q) (handed_vals given list (look_val look ∷ []) slots)) (at_left st b left_is) ∙ call_is (handed_vals given list (look_val look ∷ []) slots) (moment st.store st.calls) b (vals_many setting q s there list slots are.count st (look_val look ∷ []) looks))
      (record { comes = refl; before = λ k e h. omega arith }) refl refl refl (inl (refl, refl)) a2
