-- A turn at the start's production: its nonterminal has no goto, and the frame returns what was made.
use Rattle.std.proofs.Common.{◌≡◌, ℕ, ◌+◌, ◌<◌, ◌≤◌, true, List, [], ◌∷◌, ◌++◌, length, Some, slice_get, refl, sym, ap, ◌∙◌, subst, inl, arith}
use Rattle.std.specs.BTreeMap.{IsOrdered}
use Rattle.std.specs.Ordering.{nat_cmp}
use Rattle.lp_repr.specs.Numbering.{nonterminals_of}
use Rattle.lp_repr.specs.declared.lr1.Lr1State.{Lr1State}
use Rattle.lp_repr.specs.declared.numbering.SymbolNumber.TheVariants.{Nonterminal}
use Rattle.lp_repr.specs.declared.repr.Grammar.{Grammar}
use Rattle.lp_repr.specs.declared.values.RunItem.{RunItem}
use Rattle.lp_machine.specs.declared.config.Config.{Config}
use Rattle.lp_machine.specs.declared.lookup.Rule.{Rule}
use Rattle.lp_machine.specs.Tables.{Tables}
use Rattle.lp_core.specs.declared.expr.Case.{Case}
use Rattle.lp_core.specs.declared.value.StateType.{StateType}
use Rattle.lp_core.specs.declared.value.Tag.TheVariants as tag
use Rattle.lp_core.specs.CaseMeaning.{chosen}
use Rattle.lp_core.specs.Datum.{Unset}
use Rattle.lp_core.specs.Eval.{count, run}
use Rattle.lp_core.specs.Flow.{State}
use Rattle.lp_core.specs.Reading.{wrapped}
use Rattle.lp_core.specs.Store.{Program}
use Rattle.lp_core.specs.Tree.{Tree, Loop, trees_of}
use Rattle.lp_core.specs.Val.{Val, Plain}
use Rattle.lp_code_laws.specs.Ends.Ends.{moment, at, Eval, Sequence, Giving, Returning, EndsIn}
use Rattle.lp_code_laws.specs.Ends.Slots.{HasSlots}
use Rattle.lp_code_laws.proofs.Ends.Loops.{last_turn}
use Rattle.lp_maker.specs.Making.{Making}
use Rattle.lp_code_laws.proofs.Slots.Slots.{get_within, get_behind}
use Rattle.lp_question_laws.specs.Tables.Acts.{symbol_val}
use Rattle.lp_turn_laws.specs.Paths.Over.{IsOver}
use Rattle.lp_turn_laws.specs.Paths.Walks.{edge_at}
use Rattle.lp_turn_laws.proofs.Paths.MachineRules.{agree}
use Rattle.lp_ascent_bodies.specs.AscentGotos.{goto_turn}
use Rattle.lp_ascent.specs.Slots.{is_cell, layouts_of}
use Rattle.lp_back_end_laws.specs.Call.Slots.{layout}
use Rattle.lp_back_end_laws.specs.Call.Frames.{AreSlots}
use Rattle.lp_back_end_laws.specs.Call.Standing.{look_val, place_of}
use Rattle.lp_back_end_laws.specs.Call.Turns.{Looping, Turning, TurnAnswers}
use Rattle.lp_back_end_laws.proofs.Call.Callers.{leads_ends}
use Rattle.lp_back_end_laws.proofs.Call.GotoChoice.{other_chosen}
use Rattle.lp_back_end_laws.proofs.Call.GotoCounts.{lacks_a_goto}
use Rattle.lp_back_end_laws.proofs.Call.Items.{never_unseen}
use Rattle.lp_back_end_laws.proofs.Call.LoopArms.{arms_tests, later_all}
use Rattle.lp_back_end_laws.proofs.Call.LoopCode.{LoopCode}
use Rattle.lp_back_end_laws.proofs.Call.Loops.{turn_leads, other_given, result_of, with_parts}
use Rattle.lp_back_end_laws.proofs.Call.StateRuns.{last_of_bodies}
use Rattle.lp_back_end_laws.proofs.Call.TurnChecks.{check_passes}
use Rattle.lp_back_end_laws.proofs.Call.TurnCode.{named, first_rows, last_rows, rows_checks, rows_in, rows_other, rows_room}
use Rattle.lp_back_end_laws.proofs.Call.TurnEnds.{look_set, rule_in_range, some_goto, turn_code, inner_there, returns_at_once}
use Rattle.lp_back_end_laws.proofs.Call.TurnResults.{returns_now}

-- no state has a goto on the start's nonterminal
pub start_unseen : {g : Grammar} {start : ℕ} {states : List Lr1State} {t : Tables} (over : IsOver g start states t) (y : ℕ) (rule : Rule) → t.rule y ≡ Some rule → rule.is_start ≡ true → (q to : ℕ) → edge_at states q (Nonterminal rule.nonterminal) ≡ Some to → ⊥
start_unseen {g} {states = states} over y rule known starts q to edge =
    let a = agree g over.grammar y rule (sym ((over.known).rule y) ∙ known) in
    never_unseen over q a.rule.left to (a.starts starts) (sym (ap (λ (n : ℕ). edge_at states q (Nonterminal n)) a.nonterminal_is) ∙ edge)

module _ {g : Grammar} {start : ℕ} {states : List Lr1State} {t : Tables} (over : IsOver g start states t) {items : List RunItem} {p : Program} {variant : ℕ → ℕ} {most : ℕ} {keys : List (List ℕ)} {given : List Val} {kind : StateType} {before : Making} {q : ℕ} {s : Lr1State} {loop : Looping}
    (here : slice_get states q ≡ Some s) (code : LoopCode g states p variant kind before q s loop) {c : Config} {list : ℕ} {own : List Val} {now : Config} {st : State} (h : Turning g states t items variant most keys given loop q c list own now st) where
  -- what was made, in two parts
  abbrev pub made_symbol : Val
  made_symbol = symbol_val ((place_of now h.reduced.rule).0, h.reduced.value, (place_of now h.reduced.rule).1)

  abbrev pub made_look : Val
  made_look = look_val h.reduced.look

  abbrev pub made_variant : Val
  made_variant = wrapped (tag.Variant (variant h.reduced.rule.nonterminal)) made_symbol

  -- there is room for the parts
  pub parts_room : loop.names.next + 2 ≤ length st.store.env
  parts_room =
      let w = some_goto over here code h in
      let later = later_all g (layouts_of g states) (layout g states q) code.shared loop.names.next (loop.names.next + 1) (first_rows code) (named code) in
      omega (arith, later.next, rows_room code w.place w.row w.at, h.many)

  pub parts_slots : HasSlots loop.names.next 2 st.store.env
  parts_slots = record { slot = λ i low high. get_within st.store.env i (omega (arith, high, parts_room)) }

  -- the check passes where no slot was taken
  pub checks_pass : h.d ≡ 0 → (w : Val) × EndsIn p (Sequence (trees_of (last_rows code).checks) (Plain Unset)) (moment st.store st.calls) 0 (Giving w (moment st.store st.calls))
  checks_pass none =
      subst (λ (es : List Tree). (w : Val) × EndsIn p (Sequence (trees_of es) (Plain Unset)) (moment st.store st.calls) 0 (Giving w (moment st.store st.calls))) (sym (rows_checks code))
      (check_passes code.shared loop.names.next (loop.names.next + 1) loop.names (layout g states q) {m = moment st.store st.calls} h.shown.slots (subst (λ (d : ℕ). AreSlots (layout g states q) (is_cell (layout g states q)) d c.triples st.store.cells own) none h.own_are))

  pub other_answers : h.d ≡ 0 → q ≡ 0 → h.reduced.rule.is_start ≡ true → IsOrdered nat_cmp s.gotos → ((i j : ℕ) → i < length (nonterminals_of g) → j < length (nonterminals_of g) → variant i ≡ variant j → i ≡ j)
      → TurnAnswers g states t items variant most q c own h.d now st (run p (Loop loop.turn) st)
  other_answers none first starts ordered apart =
      let w = some_goto over here code h in
      let rule = h.reduced.rule in
      let token = loop.names.next in
      let rows = last_rows code in
      let within = rule_in_range over h.reduced.production rule h.reduced.known in
      let unseen = start_unseen over h.reduced.production rule h.reduced.known starts q in
      let other = rows_other code (lacks_a_goto over q s here rule.nonterminal ordered within unseen) in
      let bodies = rows.arms.bodies in
      let many = count (trees_of (bodies ++ rows.other ∷ [])) in
      let is : chosen p rows.arms.cases many made_variant ≡ Some (length bodies) =
      ap (λ (cases : List Case). chosen p cases many made_variant) (arms_tests g (layouts_of g states) (layout g states q) code.shared token (token + 1) (first_rows code) (named code))
      ∙ other_chosen over q s here variant (layouts_of g states) (layout g states q) code.shared token (token + 1) (first_rows code) (rows_in code w.place w.row w.at).variants apart p many rule.nonterminal made_symbol within unseen
      ∙ last_of_bodies bodies rows.other in
      let checked = checks_pass none in
      let there = inner_there over here code h ∙ ap Some h.reduced.answers in
      let leads = turn_leads code.shared token rows.checks rows.arms rows.other {m = moment st.store st.calls} (length bodies) checked.1 there parts_slots refl is (get_behind bodies rows.other []) in
      let m = moment st.store st.calls in
      let after = with_parts token (Plain Unset) (Plain Unset) (with_parts token made_look made_variant m) in
      let v = wrapped tag.Success (result_of made_look made_variant) in
      let gives : EndsIn p (Eval rows.other) (with_parts token made_look made_variant m) 0 (Returning v after) =
      subst (λ (e : Tree). EndsIn p (Eval e) (with_parts token made_look made_variant m) 0 (Returning v after)) (sym other) (other_given code.shared token rows.checks rows.arms rows.other {m = m} parts_slots (look_set h.reduced.look) refl) in
      let ends : EndsIn p (Eval (Loop (goto_turn code.shared token (token + 1) rows.checks rows.arms rows.other))) m 1 (Returning v after) = last_turn (leads_ends leads gives) in
      returns_at_once q c own h.d now st p loop.turn (subst (λ (e : Tree). EndsIn p (Eval (Loop e)) m 1 (Returning v after)) (sym (turn_code over here code h)) ends) h.follows.calls
      (λ left is. returns_now q c own now st h.d h.inner v c.triples (at after left) h.reduced (ap (wrapped tag.Success) (sym h.reduced.answers)) (inl (first, starts)) h.own_are refl h.follows.taken h.follows.calls (omega (arith, is)))
