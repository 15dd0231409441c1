-- The move of a goto's arm: slots are taken out, the state goes on the list, and its function is called with what the frame hands on.
use Rattle.std.proofs.Common.{◌≡◌, ℕ, ◌+◌, ◌-◌, ◌<◌, ◌≤◌, ◌^◌, ℤ, pos, Bool, true, false, List, [], ◌∷◌, ◌++◌, length, map, codes, decimal, Option, Some, refl, sym, ap, ◌∙◌, subst, arith, length-append, length-drop, append_assoc}
use Rattle.std.specs.Prelude.{slice_get, slice_set, nat_lt}
use Rattle.std.specs.Str.{bytes_eq}
use Rattle.lp_repr.specs.declared.repr.Grammar.{Grammar}
use Rattle.lp_driver.specs.Values.{Spanned, Value}
use Rattle.lp_machine.specs.ReductionSpan.{popped}
use Rattle.lp_core.specs.declared.value.StateType.{StateType}
use Rattle.lp_core.specs.declared.value.Tag.{Tag}
use Rattle.lp_core.specs.declared.value.Tag.TheVariants as tag
use Rattle.lp_core.specs.Datum.{Cell, Unset}
use Rattle.lp_core.specs.Effect.{set_value}
use Rattle.lp_core.specs.Numbers.{fitting}
use Rattle.lp_core.specs.Reading.{empty, wrapped}
use Rattle.lp_core.specs.Store.{Program, Held, States}
use Rattle.lp_core.specs.Tree.{trees_of}
use Rattle.lp_core.specs.Val.{Val, Plain}
use Rattle.lp_form.specs.declared.part.Part.TheVariants as part
use Rattle.lp_view.specs.PartLists.{Form, parts_of}
use Rattle.lp_maker.specs.Making.{Making, number_in}
use Rattle.lp_maker.specs.Slots.{Names, slot_of}
use Rattle.lp_bodies.specs.Lines.{Lines}
use Rattle.lp_code_laws.specs.Ends.Ends.{Moment, steps, Sequence, Returning}
use Rattle.lp_code_laws.proofs.Ends.Steps.{steps_are}
use Rattle.lp_code_laws.proofs.Ends.Tags.{slot_is}
use Rattle.lp_question_laws.proofs.Gotos.Digits.{wide_number_of_decimal}
use Rattle.lp_code_laws.specs.Slots.Shows.{HasRoom, Keeps}
use Rattle.lp_code_laws.proofs.Slots.Slots.{keeps_both, keeps_fewer}
use Rattle.lp_code_laws.specs.Printed.Ran.{Ran}
use Rattle.lp_question_laws.specs.Tables.Acts.{symbol_val}
use Rattle.lp_question_laws.specs.Reductions.Arguments.{ShowAll}
use Rattle.lp_question_laws.specs.Reductions.Outer.{sym_name}
use Rattle.lp_question_laws.proofs.Reductions.Arguments.{show_append}
use Rattle.lp_question_laws.proofs.Reductions.Keys.{symbol_keys}
use Rattle.lp_question_laws.proofs.Reductions.Texts.{AllKeys, names_of}
use Rattle.lp_question_laws.proofs.Tokens.FormOf.{AllWord}
use Rattle.lp_ascent_bodies.specs.declared.ascent.Lines.{Lines as Shared}
use Rattle.lp_ascent_bodies.specs.AscentGotos.{Going, arm_lines}
use Rattle.lp_ascent_bodies.specs.AscentMoves.{take_rows, push_state, call_state, transition, found_transition}
use Rattle.lp_ascent_bodies.specs.AscentReductions.{return_line, returns, take_line}
use Rattle.lp_ascent.specs.CallLines.{call_of, call_with, cells_from}
use Rattle.lp_ascent.specs.GotoLines.{goto_arm}
use Rattle.lp_ascent.specs.Slots.{Layout, count_of, is_cell, layout_at}
use Rattle.lp_back_end_laws.specs.Call.Frames.{AreSlots, AreApart}
use Rattle.lp_back_end_laws.specs.Call.Handing.{HandsOn, TakenOut, handed_slots, with_values}
use Rattle.lp_back_end_laws.specs.Call.Stretches.{Passes}
use Rattle.lp_back_end_laws.specs.Call.Turns.{ShowsFrame}
use Rattle.lp_back_end_laws.proofs.Call.Cells.{all_taken, over_cells, emptied, take_lines, take_form, others_shown, Let}
use Rattle.lp_back_end_laws.proofs.Call.Entering.{list_out}
use Rattle.lp_back_end_laws.proofs.Call.GotoArms.{goto_symbol, symbol_ran}
use Rattle.lp_back_end_laws.proofs.Call.GotoFrames.{ArmNames, in_arm, arm_slots, key_apart, keys_carried, frame_carried, arm_known, arm_shows, look_shows, symbol_shows, symbol_keeps, symbol_there, parted_room}
use Rattle.lp_back_end_laws.proofs.Call.GotoKeys.{goto_keys}
use Rattle.lp_back_end_laws.proofs.Call.HandedNames.{call_whole, each_shown}
use Rattle.lp_back_end_laws.proofs.Call.Lookups.{get_dropped}
use Rattle.lp_back_end_laws.proofs.Call.Loops.{with_parts}
use Rattle.lp_back_end_laws.proofs.Call.PrintedMoves.{move_parts, one_part}
use Rattle.lp_back_end_laws.proofs.Call.TakenCells.{cells_apart, taken_out}
use Rattle.lp_back_end_laws.proofs.Call.TakenNames.{cell, value, cells_are, cells_full, handed_shown, none_by}
use Rattle.lp_back_end_laws.proofs.Call.Transitions.{IsBack, passed, call_keys, return_forms, take_rows_are, transition_passes}

-- ---- the slots that the lines of a move give out
take_next : (js : List ℕ) (l : Lines) → (take_lines js l).names.next ≡ l.names.next + length js
take_next [] l = omega arith
take_next (j ∷ js) l = (let r = take_next js (take_line (take_form j) l) in omega (arith, r))

return_next : (shared : Shared) (b : Bool) (l : Lines) → (return_line shared b l).names.next ≡ l.names.next
return_next shared true l = refl
return_next shared false l = refl

move_next : (made : Making) (shared : Shared) (form : Form) (js : List ℕ) (returning : Bool) (l : Lines) → parts_of form ≡ map take_form js ++ return_forms returning → (transition made shared form l).names.next ≡ l.names.next + length js + 1
move_next made shared form js returning l parts =
    let r = return_next shared (returns form) (call_state made shared form (push_state shared form (take_rows form l))) in
    let t : (take_rows form l).names.next ≡ (take_lines js l).names.next = ap (λ (x : Lines). x.names.next) (take_rows_are form js returning parts l) in
    r ∙ ap (λ (n : ℕ). n + 1) (t ∙ take_next js l)

-- ---- the arm's move
module _ (g : Grammar) (ls : List Layout) (l : Layout) (to : ℕ) (name : List ℕ) where
  abbrev pub callee : Layout
  callee = layout_at ls to

  abbrev pub move_form : Form
  move_form = call_with g l callee to true

  -- the slots that are taken out
  abbrev pub first_taken : ℕ
  first_taken = count_of l + 1 - callee.fixed

  abbrev pub taken_slots : List ℕ
  taken_slots = cells_from l first_taken

  pub arm_move : slice_get (parts_of (goto_arm g ls l (name, to))) 0 ≡ Some move_form
  unfolding call_of
  arm_move = ap (λ (fs : List Form). slice_get fs 0) (one_part part.GotoArm (name ∷ decimal (count_of l) ∷ []) move_form (call_whole g ls l to true))

  pub arm_next : (made : Making) (shared : Shared) (slot : ℕ) (names : Names) → (arm_lines made shared slot names (goto_arm g ls l (name, to))).names.next ≡ names.next + 1 + length taken_slots + 1
  arm_next made shared slot names =
      let lines = goto_symbol slot names (goto_arm g ls l (name, to)) in
      ap (λ (o : Option Form). (found_transition made shared o lines).names.next) arm_move ∙ move_next made shared move_form taken_slots (nat_lt 1 callee.fixed) lines (move_parts g l callee to true)

-- an arm is run where the frame's slots are full and its names show it, and what was made is this symbol
pub record InArm (g : Grammar) (ls : List Layout) (l : Layout) (to : ℕ) (name : List ℕ) (shared : Shared) (kind : StateType) (names : Names) (before : Going) (f : ℕ) (given : List Val) (list : ℕ) (own : List Val) (triples : List (Spanned Value)) (ss : List ℤ) (look symbol : Val) (y : Spanned Value) (m : Moment) : Type 0 where
  pub hands : HandsOn l (callee g ls l to name)
  pub small : count_of l < 2 ^ 64
  pub word : AllWord g.prefix
  pub plain : AllKeys g.prefix (names_of g.parameters)
  -- the code
  pub kind_is : shared.kind ≡ Some kind
  pub few : to < 2 ^ 63
  pub fits : fitting kind (pos to) ≡ Some (pos to)
  pub below : shared.made < names.next
  pub apart_made : (key : List ℕ) (slot : ℕ) → bytes_eq (codes "~result") key ≡ false → slot_of key names ≡ Some slot → shared.made ≡ slot → ⊥
  pub arm_names : ArmNames names before.names
  pub prefix : before.made.prefix ≡ g.prefix
  pub named : number_in (codes "state" ++ decimal to) before.made.names ≡ Some f
  pub room : before.names.next + length (taken_slots g ls l to name) + 2 ≤ length m.store.env
  -- the frame
  pub shown : ShowsFrame names m.store.env (names_of g.parameters) given list own
  pub are : AreSlots l (is_cell l) 0 triples m.store.cells own
  pub apart : AreApart own
  pub there : slice_get m.store.cells list ≡ Some (States ss)
  pub old : Val
  pub result : slice_get m.store.env shared.made ≡ Some old
  pub set_look : set_value look ≡ Some look
  pub tag : Tag
  pub symbol_is : symbol ≡ wrapped tag (symbol_val y)

-- what the callee's function is called with
abbrev pub handed_values : List Val → ℕ → Val → List Val → List Val
handed_values given list look slots = given ++ (empty tag.Tuple ∷ Plain (Cell list) ∷ look ∷ []) ++ slots

-- its move calls the function of the goto's state, over what is left of the cells and with the state on the list
pub record GotoCalls (p : Program) (g : Grammar) (ls : List Layout) (l : Layout) (to : ℕ) (name : List ℕ) (shared : Shared) (names : Names) (before : Going) (f : ℕ) (given : List Val) (list : ℕ) (own : List Val) (triples : List (Spanned Value)) (ss : List ℤ) (look symbol : Val) (y : Spanned Value) (m : Moment) : Type 0 where
  pub env : List Val
  pub slot : ℕ
  pub out : List Val
  pub cells_out : List Held
  pub keeps : Keeps names.next m.store.env env
  pub above : names.next ≤ slot
  pub took : TakenOut l ((callee g ls l to name).fixed - 1) triples own out m.store.cells cells_out
  pub passes : Passes p (Sequence (trees_of (transition before.made shared (move_form g ls l to name) (goto_symbol (names.next + 1) (in_arm names before.names) (goto_arm g ls l (name, to)))).parts) (Plain Unset)) (with_parts names.next look symbol m) 0 f
      (handed_values given list look (handed_slots l (callee g ls l to name) out (symbol_val y))) (over_cells env (slice_set cells_out list (States (ss ++ pos to ∷ []))) m)
      (IsBack (over_cells env (slice_set cells_out list (States (ss ++ pos to ∷ []))) m) list (ss ++ pos to ∷ [])) (passed (nat_lt 1 (callee g ls l to name).fixed) slot shared.made list ss) (λ v b. Returning (wrapped tag.Failure v) (slot_is slot (Plain Unset) b))

calls_by : (p : Program) {g : Grammar} {ls : List Layout} {l : Layout} {to : ℕ} {name : List ℕ} {shared : Shared} {kind : StateType} {names : Names} {before : Going} {f : ℕ} {given : List Val} {list : ℕ} {own : List Val} {triples : List (Spanned Value)} {ss : List ℤ} {look symbol : Val} {y : Spanned Value} {m : Moment}
    → InArm g ls l to name shared kind names before f given list own triples ss look symbol y m → first_taken g ls l to name + ((callee g ls l to name).fixed - 1) ≡ count_of l → GotoCalls p g ls l to name shared names before f given list own triples ss look symbol y m
calls_by p {g} {ls} {l} {to} {name} {shared} {kind} {names} {before} {f} {given} {list} {own} {triples} {ss} {look} {symbol} {y} {m} a count =
    let k = callee g ls l to name in
    let js = taken_slots g ls l to name in
    let first = first_taken g ls l to name in
    let q : ℕ = k.fixed - 1 in
    let v = symbol_val y in
    let old_names = before.names in
    let m1 = with_parts names.next look symbol m in
    let env2 = arm_slots names old_names look symbol v m.store.env in
    let m2 = slot_is old_names.next v m1 in
    let lines = goto_symbol (names.next + 1) (in_arm names old_names) (goto_arm g ls l (name, to)) in
    let room1 : HasRoom 1 old_names m.store.env = record { room = omega (arith, a.room) } in
    let there : slice_get m1.store.env (names.next + 1) ≡ Some (wrapped a.tag v) = symbol_there names old_names a.arm_names m.store.env room1 look symbol v (count_of l) ∙ ap Some a.symbol_is in
    let ran : Ran p lines m1 0 m2 = symbol_ran (in_arm names old_names) (sym_name (count_of l)) (names.next + 1) a.tag v m1 there (parted_room names old_names a.arm_names m.store.env room1 look symbol v (count_of l)) in
    let kept = symbol_keeps names old_names a.arm_names m.store.env room1 look symbol v (count_of l) in
    let frame : ShowsFrame lines.names env2 (names_of g.parameters) given list own = frame_carried g.prefix (count_of l) a.small (arm_shows names old_names a.arm_names m.store.env room1 look symbol v (count_of l)) a.plain a.are.count a.shown in
    let cells = cell a.are first q count a.small in
    let values = value a.are first q count a.small in
    let are_cells = cells_are a.are first q count a.small in
    let room2 : HasRoom (length js) lines.names m2.store.env = record { room = omega (arith, a.room, kept.many) } in
    let room3 : HasRoom (length js + 1) lines.names m2.store.env = record { room = omega (arith, a.room, kept.many) } in
    let taken : Let p m1 m2 0 (λ i j. values j) js (emptied cells js m2.store.cells) lines (take_lines js lines) =
    all_taken m1 cells values js lines m2 0 ran room2 (cells_apart a.are cells are_cells first q count a.apart) (cells_full a.are first q count a.small lines.names env2 frame.slots) in
    let took = taken_out a.are cells are_cells first q count a.apart in
    let out = with_values first own (popped (count_of l) triples) in
    let cells_out = emptied cells js m.store.cells in
    let names2 = (take_lines js lines).names in
    let keys : ShowAll names2 taken.env (names_of g.parameters) given = keys_carried g.prefix (λ q u key. others_shown taken q u (none_by js q (λ i j at. key_apart g.prefix (codes "sym" ++ decimal j) q key))) (names_of g.parameters) given a.plain frame.parameters in
    let tokens = others_shown taken (codes "~tokens") (empty tag.Tuple) (none_by js (codes "~tokens") (λ i j at. refl)) frame.tokens in
    let states = others_shown taken (codes "~states") (Plain (Cell list)) (none_by js (codes "~states") (λ i j at. refl)) frame.states in
    let ahead = others_shown taken (codes "~lookahead") look (none_by js (codes "~lookahead") (λ i j at. refl)) (look_shows names old_names a.arm_names m.store.env room1 look symbol v (count_of l)) in
    let first_handed : ℕ = count_of l + 1 - count_of k in
    let xs = out ++ v ∷ [] in
    let us = handed_slots l k out v in
    let each : ShowAll names2 taken.env (symbol_keys first_handed (length us)) us = each_shown names2 taken.env first_handed us (λ i u at. handed_shown a.are first q count a.small a.apart y frame.slots (symbol_shows names old_names a.arm_names m.store.env room1 look symbol v (count_of l)) taken (first_handed + i) u (sym (get_dropped xs first_handed i (first_handed + i) refl) ∙ at)) in
    let many : length us ≡ count_of k = omega (arith, length-drop first_handed xs, length-append out (v ∷ []), took.as_many, a.are.count, a.hands.within) in
    let slots : ShowAll names2 taken.env (symbol_keys first_handed (count_of k)) us = subst (λ (n : ℕ). ShowAll names2 taken.env (symbol_keys first_handed n) us) many each in
    let both = show_append names2 taken.env (names_of g.parameters ++ codes "~tokens" ∷ codes "~states" ∷ []) (codes "~lookahead" ∷ symbol_keys first_handed (count_of k)) (given ++ empty tag.Tuple ∷ Plain (Cell list) ∷ []) (look ∷ us)
    (show_append names2 taken.env (names_of g.parameters) (codes "~tokens" ∷ codes "~states" ∷ []) given (empty tag.Tuple ∷ Plain (Cell list) ∷ []) keys (tokens, refl, (states, refl, tt))) (ahead, a.set_look, slots) in
    let keys_are = goto_keys g l k to a.word a.plain (omega (arith, a.hands.some_fixed, a.hands.fixed_within)) a.hands.within a.small in
    let all : ShowAll names2 taken.env (call_keys before.made.prefix (move_form g ls l to name)) (handed_values given list look us) =
    subst (λ (vs : List Val). ShowAll names2 taken.env (call_keys before.made.prefix (move_form g ls l to name)) vs) (append_assoc given (empty tag.Tuple ∷ Plain (Cell list) ∷ []) (look ∷ us) ∙ sym (append_assoc given (empty tag.Tuple ∷ Plain (Cell list) ∷ look ∷ []) us))
    (subst (λ (qs : List (List ℕ)). ShowAll names2 taken.env qs ((given ++ empty tag.Tuple ∷ Plain (Cell list) ∷ []) ++ look ∷ us)) (sym (ap (λ prefix. call_keys prefix (move_form g ls l to name)) a.prefix ∙ keys_are)) both) in
    let states_known : slot_of (codes "~states") names ≡ Some frame.states.slot = sym (arm_known names old_names a.arm_names (count_of l) (codes "~states") (record { no_lookahead = refl; no_result = refl; no_symbol = refl })) ∙ frame.states.is in
    let none : steps (steps taken.count 0) 0 ≡ 0 = omega (arith, steps_are (steps taken.count 0) 0, steps_are taken.count 0, taken.counted) in
    record {
      env = taken.env;
      slot = names2.next;
      out = out;
      cells_out = cells_out;
      keeps = keeps_both kept (keeps_fewer taken.keeps (omega (arith, a.arm_names.more)));
      above = omega (arith, a.arm_names.more, taken.next);
      took = took;
      passes = subst (λ (n : ℕ). Passes p (Sequence (trees_of (transition before.made shared (move_form g ls l to name) lines).parts) (Plain Unset)) m1 n f (handed_values given list look us) (over_cells taken.env (slice_set cells_out list (States (ss ++ pos to ∷ []))) m)
          (IsBack (over_cells taken.env (slice_set cells_out list (States (ss ++ pos to ∷ []))) m) list (ss ++ pos to ∷ [])) (passed (nat_lt 1 k.fixed) names2.next shared.made list ss) (λ v b. Returning (wrapped tag.Failure v) (slot_is names2.next (Plain Unset) b))) none
          (transition_passes before.made shared (move_form g ls l to name) lines js (nat_lt 1 k.fixed) cells values kind (pos to) list f ss a.old (move_parts g l k to true) a.kind_is (wide_number_of_decimal to a.few) a.fits a.named taken room3 frame.states
          (λ e. a.apart_made (codes "~states") frame.states.slot refl states_known e) (omega (arith, a.below, a.arm_names.more)) (kept.same shared.made a.below ∙ a.result) (list_out l k a.hands y list ss ss a.are a.apart took a.there) (handed_values given list look us) all);
    }

pub goto_calls : (p : Program) {g : Grammar} {ls : List Layout} {l : Layout} {to : ℕ} {name : List ℕ} {shared : Shared} {kind : StateType} {names : Names} {before : Going} {f : ℕ} {given : List Val} {list : ℕ} {own : List Val} {triples : List (Spanned Value)} {ss : List ℤ} {look symbol : Val} {y : Spanned Value} {m : Moment}
    → InArm g ls l to name shared kind names before f given list own triples ss look symbol y m → GotoCalls p g ls l to name shared names before f given list own triples ss look symbol y m
goto_calls p a = calls_by p a (omega (arith, a.hands.some_fixed, a.hands.fixed_within, a.hands.within))
