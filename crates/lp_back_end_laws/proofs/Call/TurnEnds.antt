-- Turns that return at once: where slots were taken, and at the start's production.
use Rattle.std.proofs.Common.{◌≡◌, ℕ, zero, ◌+◌, ◌<◌, List, length, Option, Some, None, slice_get, refl, sym, ap, ◌∙◌, subst, inl, inr, arith}
use Rattle.std.specs.BTreeMap.{get}
use Rattle.std.specs.Ordering.{nat_cmp}
use Rattle.std.specs.Prelude.{IsSome}
use Rattle.std.proofs.lemmas.List.{length-map}
use Rattle.std.proofs.lemmas.Option.{slice_get_within}
use Rattle.lp_repr.specs.Numbering.{nonterminals_of}
use Rattle.lp_repr.specs.declared.lr1.Lr1State.{Lr1State}
use Rattle.lp_repr.specs.declared.repr.Grammar.{Grammar}
use Rattle.lp_repr.specs.declared.values.RunItem.{RunItem}
use Rattle.lp_driver.specs.Values.{Spanned, Token}
use Rattle.lp_machine.specs.declared.config.Config.{Config}
use Rattle.lp_machine.specs.declared.lookup.Rule.{Rule}
use Rattle.lp_machine.specs.Lookup.{goto_at, goto_in}
use Rattle.lp_machine.specs.Tables.{Tables}
use Rattle.lp_core.specs.declared.value.StateType.{StateType}
use Rattle.lp_core.specs.declared.value.Tag.TheVariants as tag
use Rattle.lp_core.specs.Datum.{Unset}
use Rattle.lp_core.specs.Effect.{set_value}
use Rattle.lp_core.specs.Eval.{run}
use Rattle.lp_core.specs.Flow.{State, Flow}
use Rattle.lp_core.specs.Prefix.{IsPrefix}
use Rattle.lp_core.specs.Reading.{wrapped}
use Rattle.lp_core.specs.Store.{Program}
use Rattle.lp_core.specs.Tree.{Tree, Loop, trees_of}
use Rattle.lp_core.specs.Val.{Val, Plain}
use Rattle.lp_code_laws.specs.Ends.Ends.{Moment, moment, at, Eval, Sequence, Returning, flow_of, EndsIn}
use Rattle.lp_maker.specs.Making.{Making}
use Rattle.lp_turn_laws.specs.Paths.Over.{IsOver}
use Rattle.lp_turn_laws.proofs.Paths.MachineRules.{agree}
use Rattle.lp_turn_laws.proofs.Paths.Numbered.{rule_place}
use Rattle.lp_turn_laws.proofs.Paths.Reductions.{at_within}
use Rattle.lp_ascent_bodies.specs.AscentGotos.{goto_turn}
use Rattle.lp_ascent.specs.AnswerLines.{answer_name}
use Rattle.lp_back_end_laws.specs.Call.Slots.{layout}
use Rattle.lp_back_end_laws.specs.Call.Standing.{as_users, look_val}
use Rattle.lp_back_end_laws.specs.Call.Turns.{Looping, Turning, TurnAnswers, TurnResult}
use Rattle.lp_back_end_laws.proofs.Call.GoingOn.{goto_in_range, goto_row}
use Rattle.lp_back_end_laws.proofs.Call.GotoChoice.{first_entry}
use Rattle.lp_back_end_laws.proofs.Call.Layouts.{dot_below}
use Rattle.lp_back_end_laws.proofs.Call.LoopCode.{LoopCode}
use Rattle.lp_back_end_laws.proofs.Call.Loops.{turn_left}
use Rattle.lp_back_end_laws.proofs.Call.Settling.{Settled, Short, Comes, ends_settle}
use Rattle.lp_back_end_laws.proofs.Call.TurnChecks.{check_returns}
use Rattle.lp_back_end_laws.proofs.Call.TurnCode.{named, last_rows, rows_checks, turn_is}
use Rattle.lp_back_end_laws.proofs.Call.TurnResults.{returns_now}

-- the lookahead is a value
pub look_set : (look : Option (Spanned Token)) → set_value (look_val look) ≡ Some (look_val look)
look_set None = refl
look_set (Some x) = refl

some_is : {A : Type 0} (o : Option A) → IsSome o → (x : A) × (o ≡ Some x)
some_is None h = absurd cc
some_is (Some x) h = (x, refl)

-- the nonterminal of a rule is one of the grammar's
pub rule_in_range : {g : Grammar} {start : ℕ} {states : List Lr1State} {t : Tables} (over : IsOver g start states t) (y : ℕ) (rule : Rule) → t.rule y ≡ Some rule → rule.nonterminal < length (nonterminals_of g)
rule_in_range {g} over y rule known =
    let a = agree g over.grammar y rule (sym ((over.known).rule y) ∙ known) in
    let r = rule_place g y a.rule a.at in
    let place : rule.nonterminal ≡ 0 + (r.0).j = a.nonterminal_is ∙ ap (λ x. x.left) r.1 in
    let within = slice_get_within g.nonterminals.entries (r.0).j (r.0).entry (r.0).entry_at in
    omega (arith, place, within, length-map g.nonterminals.entries (λ x. x.0))

module _ {g : Grammar} {states : List Lr1State} {t : Tables} {items : List RunItem} {variant : ℕ → ℕ} {most : ℕ} (q : ℕ) (c : Config) (own : List Val) (d : ℕ) (now : Config) (st : State) where
  settled_returns : {fl : Flow} {v : Val} {n : Moment} → Settled fl st.left 1 n.calls (flow_of (Returning v n)) → n.calls ≡ as_users now.calls → ((left : ℕ) → st.left ≡ left + 1 → TurnResult g states t items variant most q c own d now st v (at n left)) → TurnAnswers g states t items variant most q c own d now st fl
  settled_returns (Short less spent) calls good =
      subst (TurnAnswers g states t items variant most q c own d now st) (sym spent.is)
      (record { made = zero; first = subst (IsPrefix spent.calls) calls spent.first; early = λ k e. omega (arith, less) })
  settled_returns (Comes left is same) calls good = subst (TurnAnswers g states t items variant most q c own d now st) (sym same) (inl (good left (omega (arith, is))))

  -- a loop that returns in its first turn
  pub returns_at_once : (p : Program) (turn : Tree) {v : Val} {n : Moment} → EndsIn p (Eval (Loop turn)) (moment st.store st.calls) 1 (Returning v n) → n.calls ≡ as_users now.calls → ((left : ℕ) → st.left ≡ left + 1 → TurnResult g states t items variant most q c own d now st v (at n left))
      → TurnAnswers g states t items variant most q c own d now st (run p (Loop turn) st)
  returns_at_once p turn ends calls good = settled_returns (ends_settle ends st.left) calls good

-- ---- of a state's loop
module _ {g : Grammar} {start : ℕ} {states : List Lr1State} {t : Tables} (over : IsOver g start states t) {items : List RunItem} {p : Program} {variant : ℕ → ℕ} {most : ℕ} {keys : List (List ℕ)} {given : List Val} {kind : StateType} {before : Making} {q : ℕ} {s : Lr1State} {loop : Looping}
    (here : slice_get states q ≡ Some s) (code : LoopCode g states p variant kind before q s loop) {c : Config} {list : ℕ} {own : List Val} {now : Config} {st : State} (h : Turning g states t items variant most keys given loop q c list own now st) where
  -- there is a goto
  pub record SomeGoto : Type 0 where
    pub place : ℕ
    pub row : List ℕ × ℕ
    pub at : slice_get (named code) place ≡ Some row

  pub some_goto : SomeGoto
  some_goto =
      let n = h.some_goto.0 in
      let w = some_is (goto_at states q n) h.some_goto.1 in
      let e : get nat_cmp s.gotos n ≡ Some w.0 = sym (ap (λ (o : Option Lr1State). goto_in o n) here) ∙ w.1 in
      let f = first_entry s.gotos.entries n w.0 e in
      let name = at_within (nonterminals_of g) n (goto_in_range over q s here f.place n w.0 f.at) in
      record { place = f.place; row = (answer_name name.0, w.0); at = goto_row over q s here f.place n w.0 name.0 f.at name.1 }

  abbrev m : Moment
  m = moment st.store st.calls

  pub turn_code : loop.turn ≡ goto_turn code.shared loop.names.next (loop.names.next + 1) (last_rows code).checks (last_rows code).arms (last_rows code).other
  turn_code = turn_is code some_goto.place some_goto.row some_goto.at

  -- what was made stands in its slot
  pub inner_there : slice_get m.store.env code.shared.made ≡ Some h.inner
  inner_there = ap (slice_get st.store.env) code.made_is ∙ h.result

  pub inner_set : set_value h.inner ≡ Some h.inner
  inner_set = subst (λ (v : Val). set_value v ≡ Some v) (sym h.reduced.answers) refl

  -- where slots were taken
  pub taken_answers : 0 < h.d → TurnAnswers g states t items variant most q c own h.d now st (run p (Loop loop.turn) st)
  taken_answers some =
      let within = dot_below over q h.reduced.production h.d h.reduced.item in
      let checked = check_returns code.shared loop.names.next (loop.names.next + 1) loop.names (layout g states q) {m = m} h.shown.slots h.d some within h.own_are inner_there inner_set in
      let left = turn_left code.shared loop.names.next (last_rows code).checks (last_rows code).arms (last_rows code).other {m = m} (subst (λ (es : List Tree). EndsIn p (Sequence (trees_of es) (Plain Unset)) m 0 (Returning (wrapped tag.Success h.inner) m)) (sym (rows_checks code)) checked) in
      returns_at_once q c own h.d now st p loop.turn (subst (λ (e : Tree). EndsIn p (Eval (Loop e)) m 1 (Returning (wrapped tag.Success h.inner) m)) (sym turn_code) left) h.follows.calls
      (λ left is. returns_now q c own now st h.d h.inner (wrapped tag.Success h.inner) c.triples (at m left) h.reduced refl (inr some) h.own_are refl h.follows.taken h.follows.calls (omega (arith, is)))
