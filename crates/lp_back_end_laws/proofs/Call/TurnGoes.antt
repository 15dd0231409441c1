-- A turn at a reduction that has a goto: the machine makes its move, and the function of the goto's state is called.
use Rattle.std.proofs.Common.{◌≡◌, ℕ, ◌+◌, ◌<◌, ◌≤◌, ◌^◌, ℤ, pos, map, Bool, false, List, [], ◌∷◌, ◌++◌, length, codes, decimal, Some, slice_get, refl, sym, ap, ◌∙◌, subst, arith}
use Rattle.std.specs.Prelude.{nat_lt, slice_set}
use Rattle.std.proofs.lemmas.Option.{slice_get_within}
use Rattle.lp_repr.specs.declared.lr1.Lr1State.{Lr1State}
use Rattle.lp_repr.specs.declared.numbering.SymbolNumber.TheVariants.{Nonterminal}
use Rattle.lp_repr.specs.declared.repr.Grammar.{Grammar}
use Rattle.lp_repr.specs.declared.values.RunItem.{RunItem}
use Rattle.lp_driver.specs.declared.answers.Expecting.TheVariants.{Trial}
use Rattle.lp_driver.specs.DriverState.{last_of}
use Rattle.lp_driver.specs.Values.{Spanned, Text, Value}
use Rattle.lp_machine.specs.declared.config.Config.{Config}
use Rattle.lp_machine.specs.ExpectedList.{goto_from}
use Rattle.lp_machine.specs.GrammarTables.{grammar_tables}
use Rattle.lp_machine.specs.Tables.{Tables}
use Rattle.lp_turn_laws.specs.Alike.Course.{Leads}
use Rattle.lp_core.specs.declared.expr.Case.{Case}
use Rattle.lp_core.specs.declared.value.StateType.{StateType}
use Rattle.lp_core.specs.declared.value.Tag.TheVariants as tag
use Rattle.lp_core.specs.CaseMeaning.{chosen}
use Rattle.lp_core.specs.Datum.{Unset}
use Rattle.lp_core.specs.Eval.{count, run_call}
use Rattle.lp_core.specs.Flow.{State}
use Rattle.lp_core.specs.Numbers.{fitting}
use Rattle.lp_core.specs.Reading.{wrapped}
use Rattle.lp_core.specs.Store.{Program, States}
use Rattle.lp_core.specs.Tree.{Tree, trees_of}
use Rattle.lp_core.specs.Val.{Val, Plain}
use Rattle.lp_code_laws.specs.Ends.Ends.{Moment, moment, at, Eval, Outcome, Returning}
use Rattle.lp_code_laws.proofs.Ends.Tags.{slot_is}
use Rattle.lp_maker.specs.Making.{number_in}
use Rattle.lp_question_laws.specs.Tables.Acts.{symbol_val}
use Rattle.lp_question_laws.proofs.Reductions.Texts.{AllKeys, names_of}
use Rattle.lp_turn_laws.specs.Paths.Over.{IsOver}
use Rattle.lp_turn_laws.specs.Paths.Walks.{edge_at}
use Rattle.lp_turn_laws.proofs.Paths.Acts.{goto_edge}
use Rattle.lp_turn_laws.proofs.Paths.Numbered.{at_left}
use Rattle.lp_ascent.specs.AnswerLines.{answer_name}
use Rattle.lp_ascent_bodies.specs.AscentGotos.{goto_turn}
use Rattle.lp_ascent.specs.GotoLines.{goto_arm}
use Rattle.lp_ascent.specs.Slots.{is_cell, layouts_of}
use Rattle.lp_back_end_laws.specs.Call.Slots.{layout}
use Rattle.lp_back_end_laws.specs.Call.Frames.{AreSlots}
use Rattle.lp_back_end_laws.specs.Call.Handing.{Pushed, handed_slots}
use Rattle.lp_back_end_laws.specs.Call.Law.{Answers}
use Rattle.lp_back_end_laws.specs.Call.Standing.{as_users, look_val, Reduced}
use Rattle.lp_back_end_laws.specs.Call.Stretches.{Passes}
use Rattle.lp_back_end_laws.specs.Call.Turns.{Looping, ShowsFrame, Turning}
use Rattle.lp_back_end_laws.proofs.Call.Cells.{over_cells}
use Rattle.lp_back_end_laws.proofs.Call.Edges.{below_none, edge_hands, on_top_pushed}
use Rattle.lp_back_end_laws.proofs.Call.GotoArms.{turn_passes}
use Rattle.lp_back_end_laws.proofs.Call.GotoChoice.{Chosen, goto_chosen}
use Rattle.lp_back_end_laws.proofs.Call.GotoFrames.{in_arm}
use Rattle.lp_back_end_laws.proofs.Call.GotoMoves.{InArm, GotoCalls, goto_calls, arm_move, arm_next, move_form, handed_values}
use Rattle.lp_back_end_laws.proofs.Call.Items.{edge_states}
use Rattle.lp_back_end_laws.proofs.Call.Layouts as layouts
use Rattle.lp_back_end_laws.proofs.Call.LoopArms.{ArmHere, arm_names, arms_tests, body_lines}
use Rattle.lp_back_end_laws.proofs.Call.LoopCode.{LoopCode}
use Rattle.lp_back_end_laws.proofs.Call.Matching.{LawBelow}
use Rattle.lp_back_end_laws.proofs.Call.Moves.{goes_to}
use Rattle.lp_back_end_laws.proofs.Call.Pushing.{enters}
use Rattle.lp_back_end_laws.proofs.Call.Pushing as push
use Rattle.lp_back_end_laws.proofs.Call.Setting.{Setting}
use Rattle.lp_back_end_laws.proofs.Call.ShiftFacts.{count_small}
use Rattle.lp_back_end_laws.proofs.Call.Transitions.{IsBack, passed}
use Rattle.lp_back_end_laws.proofs.Call.TurnCode.{named, first_rows, last_rows, rows_in, rows_room}
use Rattle.lp_back_end_laws.proofs.Call.TurnEnds.{look_set, some_goto, turn_code, inner_there}
use Rattle.lp_back_end_laws.proofs.Call.TurnOther.{checks_pass, parts_slots}

map_push : (xs : List ℕ) (x : ℕ) → map pos xs ++ pos x ∷ [] ≡ map pos (xs ++ x ∷ [])
map_push [] x = refl
map_push (y ∷ xs) x = ap (λ (zs : List ℤ). pos y ∷ zs) (map_push xs x)

small_number : (n m : ℕ) → n < m → m ≤ 2147483647 → n < 2 ^ 63
small_number n m less few = omega (arith, less, few)

module _ {g : Grammar} {start : ℕ} {states : List Lr1State} {params : List Text} {failing : List ℕ} {items : List RunItem} {p : Program} {keys : List (List ℕ)} {given : List Val} {function action variant : ℕ → ℕ} {kind : StateType} {expected most cost : ℕ}
    (setting : Setting g start states params failing items p keys given function action variant kind expected most cost) {q : ℕ} {s : Lr1State} {loop : Looping} (here : slice_get states q ≡ Some s) (code : LoopCode g states p variant kind (setting.code.maker q) q s loop)
    {c : Config} {list : ℕ} {own : List Val} {now : Config} {st : State} (h : Turning g states (grammar_tables g states Trial params failing) items variant most keys given loop q c list own now st) (none : h.d ≡ 0)
    (r : Reduced states (grammar_tables g states Trial params failing) items variant q c 0 h.inner now) (starts : r.rule.is_start ≡ false) (to : ℕ) (edge : edge_at states q (Nonterminal r.rule.nonterminal) ≡ Some to) where
  abbrev t : Tables
  t = grammar_tables g states Trial params failing

  abbrev over : IsOver g start states t
  over = setting.over

  -- ---- the machine's move
  abbrev pub from : Config
  from = push.gone t items setting.never q c now h.inner r to

  abbrev pub made : Spanned Value
  made = push.made_symbol t items setting.never q c now h.inner r to

  pub move_leads : Leads t items now from 1
  move_leads =
      goes_to t items setting.never now r.rule r.value to r.pending starts
      (ap (λ stack. goto_from t (last_of stack) r.rule.nonterminal) (r.states_below ∙ below_none c.states)
      ∙ ap (λ o. goto_from t o r.rule.nonterminal) h.on_top.top ∙ over.known.goto q r.rule.nonterminal ∙ goto_edge (slice_get states q) r.rule.nonterminal ∙ edge)

  pub move_pushes : Pushed c from to made
  move_pushes = push.goto_pushes t items setting.never q c now h.inner r to

  target_there : to < length states
  target_there = let w = edge_states over q (Nonterminal r.rule.nonterminal) to edge in slice_get_within states to w.1 w.3

  source_there : q < length states
  source_there = slice_get_within states q s here

  -- ---- the arm
  abbrev pub bodies_count : ℕ
  bodies_count = count (trees_of ((last_rows code).arms.bodies ++ (last_rows code).other ∷ []))

  pub arm : Chosen over q s here variant (layouts_of g states) (layout g states q) code.shared loop.names.next (loop.names.next + 1) (first_rows code) (let w = some_goto over here code h in (rows_in code w.place w.row w.at).variants) setting.code.apart p bodies_count r.rule.nonterminal (symbol_val made) to
  arm = goto_chosen over q s here variant (layouts_of g states) (layout g states q) code.shared loop.names.next (loop.names.next + 1) (first_rows code) (let w = some_goto over here code h in (rows_in code w.place w.row w.at).variants) setting.code.apart p bodies_count r.rule.nonterminal (symbol_val made) to edge

  abbrev pub chosen_arm : ArmHere g (layouts_of g states) (layout g states q) code.shared loop.names.next (loop.names.next + 1) (first_rows code) (named code) arm.place (answer_name arm.name, to)
  chosen_arm = arm.arm

  -- what was made, as the frame sees it
  abbrev pub look : Val
  look = look_val r.look

  abbrev pub symbol : Val
  symbol = wrapped (tag.Variant (variant r.rule.nonterminal)) (symbol_val made)

  pub keys_plain : AllKeys g.prefix (names_of g.parameters)
  keys_plain = subst (AllKeys g.prefix) setting.read.keys_are setting.read.keys_plain

  -- the state's number fits the list
  state_fits : fitting kind (pos to) ≡ Some (pos to)
  state_fits =
      let top = on_top_pushed over q (Nonterminal r.rule.nonterminal) to c from made edge h.on_top move_pushes in
      setting.trials.looks_up.holds from.states to (top.stands.symbols, top.stands.path) top.top

  pub in_the_arm : InArm g (layouts_of g states) (layout g states q) to (answer_name arm.name) code.shared kind loop.names chosen_arm.before (function to) given list own c.triples (map pos c.states) look symbol made (moment st.store st.calls)
  in_the_arm =
      let w = some_goto over here code h in
      record {
        hands = edge_hands over q (Nonterminal r.rule.nonterminal) to edge;
        small = count_small over setting.symbols_few q s here;
        word = setting.read.prefix;
        plain = keys_plain;
        kind_is = code.kind_is;
        few = small_number to (length states) target_there setting.states_few;
        fits = state_fits;
        below = code.below;
        apart_made = code.apart;
        arm_names = record { others = chosen_arm.later.others; more = chosen_arm.later.next };
        prefix = chosen_arm.later.grown.prefix ∙ code.prefix ∙ setting.code.prefix q source_there;
        named = ap (number_in (codes "state" ++ decimal to)) (chosen_arm.later.grown.names ∙ code.knows) ∙ setting.code.state_named q to source_there target_there;
        room = omega (arith, chosen_arm.room, rows_room code w.place w.row w.at, h.many, arm_next g (layouts_of g states) (layout g states q) to (answer_name arm.name) chosen_arm.before.made code.shared (loop.names.next + 1) (arm_names g (layouts_of g states) (layout g states q) code.shared loop.names.next (loop.names.next + 1) chosen_arm.before));
        shown = subst (λ ks. ShowsFrame loop.names st.store.env ks given list own) setting.read.keys_are h.shown;
        are = subst (λ d. AreSlots (layout g states q) (is_cell (layout g states q)) d c.triples st.store.cells own) none h.own_are;
        apart = h.apart;
        there = h.follows.states_are;
        old = h.inner;
        result = inner_there over here code h;
        set_look = look_set r.look;
        tag = tag.Variant (variant r.rule.nonterminal);
        symbol_is = refl;
      }

  -- the arm's place
  pub arm_is : chosen p (last_rows code).arms.cases bodies_count symbol ≡ Some arm.place
  arm_is = ap (λ (cases : List Case). chosen p cases bodies_count symbol) (arms_tests g (layouts_of g states) (layout g states q) code.shared loop.names.next (loop.names.next + 1) (first_rows code) (named code)) ∙ arm.is

  pub arm_body : slice_get ((last_rows code).arms.bodies ++ (last_rows code).other ∷ []) arm.place ≡ Some (body_lines g (layouts_of g states) (layout g states q) code.shared loop.names.next (loop.names.next + 1) chosen_arm.before (answer_name arm.name, to))
  arm_body =
      let none : 0 + arm.place ≡ arm.place = omega arith in
      at_left (last_rows code).arms.bodies ((last_rows code).other ∷ []) arm.place _ (subst (λ i. slice_get (last_rows code).arms.bodies i ≡ Some (body_lines g (layouts_of g states) (layout g states q) code.shared loop.names.next (loop.names.next + 1) chosen_arm.before (answer_name arm.name, to))) none chosen_arm.body)

  -- ---- the call
  pub the_call : GotoCalls p g (layouts_of g states) (layout g states q) to (answer_name arm.name) code.shared loop.names chosen_arm.before (function to) given list own c.triples (map pos c.states) look symbol made (moment st.store st.calls)
  the_call = goto_calls p in_the_arm

  -- the list of states with the new one
  abbrev pub longer : List ℤ
  longer = map pos c.states ++ pos to ∷ []

  pub states_are : longer ≡ map pos from.states
  states_are = map_push c.states to ∙ ap (map pos) (sym move_pushes.states)

  abbrev pub inside : Moment
  inside = over_cells the_call.env (slice_set the_call.cells_out list (States longer)) (moment st.store st.calls)

  abbrev pub handed : List Val
  handed = handed_slots (layout g states q) (layout g states to) the_call.out (symbol_val made)

  -- all that it is called with
  abbrev pub handed_with : List Val
  handed_with = handed_values given list look handed

  abbrev pub returning : Bool → Val → Moment → Outcome
  returning b = passed b the_call.slot code.shared.made list (map pos c.states)

  abbrev pub leaving : Val → Moment → Outcome
  leaving v b = Returning (wrapped tag.Failure v) (slot_is the_call.slot (Plain Unset) b)

  -- own slots, none of which is taken
  pub own_full : AreSlots (layout g states q) (is_cell (layout g states q)) 0 c.triples st.store.cells own
  own_full = subst (λ d. AreSlots (layout g states q) (is_cell (layout g states q)) d c.triples st.store.cells own) none h.own_are

  pub turn_calls : Passes p (Eval loop.turn) (moment st.store st.calls) 0 (function to) handed_with inside (IsBack inside list (map pos from.states)) (returning (nat_lt 1 (layout g states to).fixed)) leaving
  turn_calls =
      let m = moment st.store st.calls in
      let rows = last_rows code in
      let l = layout g states q in
      let ls = layouts_of g states in
      let token = loop.names.next in
      let line = goto_arm g ls l (answer_name arm.name, to) in
      let lines = turn_passes code.shared token rows.checks rows.arms rows.other m chosen_arm.before.made (in_arm loop.names chosen_arm.before.names) line (move_form g ls l to (answer_name arm.name)) look (symbol_val made) (variant r.rule.nonterminal) arm.place
      (checks_pass over here code h none).1 (inner_there over here code h ∙ ap Some r.answers) (parts_slots over here code h) arm_is arm_body (arm_move g ls l to (answer_name arm.name)) the_call.passes in
      subst (λ (e : Tree). Passes p (Eval e) m 0 (function to) handed_with inside (IsBack inside list (map pos from.states)) (returning (nat_lt 1 (layout g states to).fixed)) leaving) (sym (turn_code over here code h))
      (subst (λ (ss : List ℤ). Passes p (Eval (goto_turn code.shared token (token + 1) rows.checks rows.arms rows.other)) m 0 (function to) handed_with inside (IsBack inside list ss) (returning (nat_lt 1 (layout g states to).fixed)) leaving) states_are lines)

  -- what the callee answers
  pub cells_are : inside.store.cells ≡ slice_set the_call.cells_out list (States (map pos from.states))
  cells_are = ap (λ ss. slice_set the_call.cells_out list (States ss)) states_are

  pub call_answers : (n : ℕ) → LawBelow g states t items variant most n p function given → (left : ℕ) → left < n → Answers g states t items variant most to from handed (at inside left) (run_call p (function to) handed_with (at inside left))
  call_answers n law left less =
      law to from list handed handed_with (at inside left) less
      (enters over items given q (Nonterminal r.rule.nonterminal) to c from made list own the_call.out (look ∷ []) (at inside left) st.store.cells the_call.cells_out edge h.on_top move_pushes
      (push.goto_hands t items setting.never q c now h.inner r to (layout g states to) (layouts.goto_hands over q r.rule.nonterminal to edge)) own_full h.apart h.follows.states_are the_call.took cells_are
      (h.follows.taken ∙ sym (push.goto_taken t items setting.never q c now h.inner r to)) (h.follows.calls ∙ ap (λ cs. as_users cs) (sym (push.goto_calls t items setting.never q c now h.inner r to))))
