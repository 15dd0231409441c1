-- A turn of a state's loop over gotos answers what the machine comes to.
use Rattle.std.proofs.Common.{◌≡◌, ℕ, ◌<◌, ◌≤◌, pos, map, Bool, true, false, List, length, Some, slice_get, refl, sym, ◌∙◌, subst, ⊎_elim, arith}
use Rattle.std.specs.BTreeMap.{IsOrdered}
use Rattle.std.specs.Ordering.{nat_cmp}
use Rattle.std.specs.Prelude.{nat_lt, slice_set}
use Rattle.std.proofs.lemmas.Bool.{cases_lt, ltb-true, ltb-false}
use Rattle.lp_repr.specs.declared.lr1.Lr1State.{Lr1State}
use Rattle.lp_repr.specs.declared.numbering.SymbolNumber.TheVariants.{Nonterminal}
use Rattle.lp_repr.specs.declared.repr.Grammar.{Grammar}
use Rattle.lp_repr.specs.declared.values.RunItem.{RunItem}
use Rattle.lp_driver.specs.declared.answers.Expecting.TheVariants.{Trial}
use Rattle.lp_driver.specs.Values.{Text}
use Rattle.lp_machine.specs.declared.config.Config.{Config}
use Rattle.lp_machine.specs.GrammarTables.{grammar_tables}
use Rattle.lp_machine.specs.Move.{moves}
use Rattle.lp_machine.specs.Tables.{Tables}
use Rattle.lp_core.specs.declared.value.StateType.{StateType}
use Rattle.lp_core.specs.Datum.{Unset}
use Rattle.lp_core.specs.Eval.{run, run_call}
use Rattle.lp_core.specs.Flow.{State, Gives}
use Rattle.lp_core.specs.Store.{Program}
use Rattle.lp_core.specs.Tree.{Loop}
use Rattle.lp_core.specs.Val.{Val, Plain}
use Rattle.lp_code_laws.specs.Ends.Ends.{Moment, moment, at, Eval, Outcome}
use Rattle.lp_code_laws.proofs.Ends.Lists.{get_same, get_other, length_set}
use Rattle.lp_code_laws.specs.Slots.Shows.{Keeps}
use Rattle.lp_turn_laws.specs.Paths.Walks.{edge_at, Has}
use Rattle.lp_question_laws.proofs.Reductions.Texts.{names_of}
use Rattle.lp_ascent.specs.Slots.{Layout, count_of}
use Rattle.lp_back_end_laws.specs.Call.Slots.{layout}
use Rattle.lp_back_end_laws.specs.Call.Back as back
use Rattle.lp_back_end_laws.specs.Call.Law.{Answers, Result}
use Rattle.lp_back_end_laws.specs.Call.Standing.{Reduced}
use Rattle.lp_back_end_laws.specs.Call.Stretches.{Passes}
use Rattle.lp_back_end_laws.specs.Call.Turns.{Looping, ShowsFrame, Turning, TurnAnswers}
use Rattle.lp_back_end_laws.proofs.Call.Callers.{turn_returns, turn_goes_on}
use Rattle.lp_back_end_laws.proofs.Call.FrameNames.{result_shows}
use Rattle.lp_back_end_laws.proofs.Call.GotoFrames.{frame_carried}
use Rattle.lp_back_end_laws.proofs.Call.Items.{first_rule}
use Rattle.lp_back_end_laws.proofs.Call.Layouts.{fixed_above}
use Rattle.lp_back_end_laws.proofs.Call.LoopCode.{LoopCode}
use Rattle.lp_back_end_laws.proofs.Call.Matching.{LawBelow, LoopBelow}
use Rattle.lp_back_end_laws.proofs.Call.Setting.{Setting}
use Rattle.lp_back_end_laws.proofs.Call.Transitions.{IsBack, result_slots, with_result}
use Rattle.lp_back_end_laws.proofs.Call.TurnEnds.{inner_there, taken_answers}
use Rattle.lp_back_end_laws.proofs.Call.TurnOther.{other_answers}
use Rattle.lp_back_end_laws.proofs.Call.TurnPasses.{turn_returned, turn_again}
use Rattle.lp_back_end_laws.proofs.Call.TurnGoes as goes

module _ {g : Grammar} {start : ℕ} {states : List Lr1State} {params : List Text} {failing : List ℕ} {items : List RunItem} {p : Program} {keys : List (List ℕ)} {given : List Val} {function action variant : ℕ → ℕ} {kind : StateType} {expected most cost : ℕ}
    (setting : Setting g start states params failing items p keys given function action variant kind expected most cost) {q : ℕ} {s : Lr1State} (loops : ℕ → Looping) (here : slice_get states q ≡ Some s) (code : LoopCode g states p variant kind (setting.code.maker q) q s (loops q)) where
  abbrev t : Tables
  t = grammar_tables g states Trial params failing

  abbrev l : Layout
  l = layout g states q

  module _ (n : ℕ) (law : LawBelow g states t items variant most n p function given) (again : LoopBelow g states t items variant most n p keys given loops) {c : Config} {list : ℕ} {own : List Val} {now : Config} {st : State} (h : Turning g states t items variant most keys given (loops q) q c list own now st) where
    -- ---- a goto
    module _ (none : h.d ≡ 0) (r : Reduced states t items variant q c 0 h.inner now) (starts : r.rule.is_start ≡ false) (to : ℕ) (edge : edge_at states q (Nonterminal r.rule.nonterminal) ≡ Some to) where
      abbrev k : Layout
      k = layout g states to

      abbrev from : Config
      from = goes.from setting here code h none r starts to edge

      abbrev inside : Moment
      inside = goes.inside setting here code h none r starts to edge

      abbrev handed : List Val
      handed = goes.handed setting here code h none r starts to edge

      abbrev slot : ℕ
      slot = (goes.the_call setting here code h none r starts to edge).slot

      some : 1 ≤ most
      some = omega (arith, setting.some)

      -- the turn after it
      turns_next : k.fixed ≡ 1 → (after : ℕ) → after < n → (v : Val) (st' : State) → run_call p (function to) (goes.handed_with setting here code h none r starts to edge) (at inside after) ≡ Gives v st' → (x : Result g states t items variant most to from handed (at inside after) v st')
          → (b : back.Back g states t items variant q to c list own st.store.cells st'.store.cells x.inner (moves t items x.made from))
          → (w : Turning g states t items variant most keys given (loops q) q c list own (moves t items x.made from) (at (with_result slot code.shared.made list (map pos c.states) x.inner (moment st'.store st'.calls)) st'.left)) × (w.d ≡ b.d)
      turns_next one after less v st' is x b =
          let call = goes.the_call setting here code h none r starts to edge in
          let a = goes.in_the_arm setting here code h none r starts to edge in
          let made = code.shared.made in
          let names = (loops q).names in
          let env = st'.store.env in
          let slots = result_slots slot made x.inner env in
          let bare = slice_set env slot (Plain Unset) in
          let keeps : Keeps names.next st.store.env env = subst (λ (e : List Val). Keeps names.next st.store.env e) (sym x.env) call.keeps in
          let old : slice_get bare made ≡ Some h.inner = get_other env slot made (Plain Unset) (λ e. omega (arith, e, code.below, call.above)) ∙ keeps.same made code.below ∙ inner_there setting.over here code h in
          let many : length slots ≡ (loops q).many = length_set bare made x.inner ∙ length_set env slot (Plain Unset) ∙ keeps.many ∙ h.many in
          let shown : ShowsFrame names slots (names_of g.parameters) given list own = frame_carried g.prefix (count_of l) a.small (λ key u frame sh. result_shows slot made x.inner keeps call.above sh (λ e. code.apart key sh.slot frame.no_result sh.is e)) a.plain a.are.count a.shown in (
            record {
              some_goto = h.some_goto;
              goes = h.goes;
              on_top = h.on_top;
              d = b.d;
              inner = x.inner;
              reduced = b.reduced;
              many = many;
              result = subst (λ (j : ℕ). slice_get slots j ≡ Some x.inner) code.made_is (get_same bare made old);
              shown = subst (λ (ks : List (List ℕ)). ShowsFrame names slots ks given list own) (sym setting.read.keys_are) shown;
              own_are = b.goes_on one;
              apart = h.apart;
              follows = record { states_are = b.list_there; taken = x.taken; calls = x.calls };
            },
            refl,
          )

      abbrev Good : (Val → Moment → Outcome) → Type 0
      Good good = Passes p (Eval (loops q).turn) (moment st.store st.calls) 0 (function to) (goes.handed_with setting here code h none r starts to edge) inside (IsBack inside list (map pos from.states)) good (goes.leaving setting here code h none r starts to edge)

      calls_answer : (left : ℕ) → left < n → Answers g states t items variant most to from handed (at inside left) (run_call p (function to) (goes.handed_with setting here code h none r starts to edge) (at inside left))
      calls_answer = goes.call_answers setting here code h none r starts to edge n law

      -- the frame returns, or it turns again
      by_fixed : (b : Bool) → nat_lt 1 k.fixed ≡ b → st.left ≤ n → Good (goes.returning setting here code h none r starts to edge b) → TurnAnswers g states t items variant most q c own 0 now st (run p (Loop (loops q).turn) st)
      by_fixed true e le passes =
          turn_returned setting.over items variant most some p (loops q).turn (function to) (goes.handed_with setting here code h none r starts to edge) q (Nonterminal r.rule.nonterminal) to edge c (goes.move_leads setting here code h none r starts to edge) (goes.made setting here code h none r starts to edge)
          (goes.move_pushes setting here code h none r starts to edge) list own (goes.the_call setting here code h none r starts to edge).out (moment st.store st.calls) inside (goes.the_call setting here code h none r starts to edge).cells_out (goes.own_full setting here code h none r starts to edge) h.apart h.follows.states_are
          (goes.the_call setting here code h none r starts to edge).took (goes.cells_are setting here code h none r starts to edge) h.follows.calls n calls_answer {z = slot} {made = code.shared.made} (ltb-true 1 k.fixed e) (turn_returns passes) st.left le
      by_fixed false e le passes =
          let low = ltb-false 1 k.fixed e in
          let one : k.fixed ≡ 1 = omega (arith, low, fixed_above setting.over q (Nonterminal r.rule.nonterminal) to edge) in
          turn_again setting.over items variant most some p (loops q).turn (function to) (goes.handed_with setting here code h none r starts to edge) q (Nonterminal r.rule.nonterminal) to edge c (goes.move_leads setting here code h none r starts to edge) (goes.made setting here code h none r starts to edge)
          (goes.move_pushes setting here code h none r starts to edge) list own (goes.the_call setting here code h none r starts to edge).out (moment st.store st.calls) inside (goes.the_call setting here code h none r starts to edge).cells_out (goes.own_full setting here code h none r starts to edge) h.apart h.follows.states_are
          (goes.the_call setting here code h none r starts to edge).took (goes.cells_are setting here code h none r starts to edge) h.follows.calls n calls_answer {z = slot} {made = code.shared.made} loops refl again (turn_goes_on passes) (turns_next one) st.left le

      goto_answers : st.left ≤ n → TurnAnswers g states t items variant most q c own 0 now st (run p (Loop (loops q).turn) st)
      goto_answers le = by_fixed (nat_lt 1 k.fixed) refl le (goes.turn_calls setting here code h none r starts to edge)

    -- ---- any turn
    -- where no slot was taken: the start's production, or a goto
    full_answers : IsOrdered nat_cmp s.gotos → h.d ≡ 0 → st.left ≤ n → TurnAnswers g states t items variant most q c own h.d now st (run p (Loop (loops q).turn) st)
    full_answers ordered none le =
        ⊎_elim
        (λ (w : (q ≡ 0) × (h.reduced.rule.is_start ≡ true)). other_answers setting.over here code h none w.0 w.1 ordered setting.code.apart)
        (λ (w : (h.reduced.rule.is_start ≡ false) × ((to : ℕ) × (edge_at states q (Nonterminal h.reduced.rule.nonterminal) ≡ Some to))).
        by h.d none h.reduced w.0 w.1.0 w.1.1)
        (first_rule setting.over c.states h.on_top.stands.symbols q h.reduced.production h.reduced.rule h.on_top.stands.path h.on_top.top h.reduced.known (subst (Has states q h.reduced.production) none h.reduced.item))
      where
        by : (d : ℕ) → d ≡ 0 → (r : Reduced states t items variant q c d h.inner now) → r.rule.is_start ≡ false → (to : ℕ) → edge_at states q (Nonterminal r.rule.nonterminal) ≡ Some to → TurnAnswers g states t items variant most q c own d now st (run p (Loop (loops q).turn) st)
        by d is = subst (λ (e : ℕ). (r : Reduced states t items variant q c e h.inner now) → r.rule.is_start ≡ false → (to : ℕ) → edge_at states q (Nonterminal r.rule.nonterminal) ≡ Some to → TurnAnswers g states t items variant most q c own e now st (run p (Loop (loops q).turn) st)) (sym is)
            (λ r starts to edge. goto_answers none r starts to edge le)

    pub turn_answers : IsOrdered nat_cmp s.gotos → st.left ≤ n → TurnAnswers g states t items variant most q c own h.d now st (run p (Loop (loops q).turn) st)
    turn_answers ordered le = ⊎_elim (λ (some : 0 < h.d). taken_answers setting.over here code h some) (λ (none : h.d ≤ 0). full_answers ordered (omega (arith, none)) le) (cases_lt 0 h.d)
