-- The match of a state's function on a token that the state shifts: it calls the function of the state that is shifted to.
use Rattle.std.proofs.Common.{◌≡◌, ℕ, ◌+◌, ◌-◌, ◌<◌, ◌≤◌, ◌^◌, ℤ, Bool, false, List, [], ◌∷◌, ◌++◌, length, map, pos, codes, decimal, Some, None, slice_get, refl, sym, ap, ◌∙◌, subst, arith, length-append, length-drop, if◌then◌else◌}
use Rattle.std.specs.Prelude.{nat_lt, slice_set}
use Rattle.std.specs.Str.{bytes_eq}
use Rattle.std.proofs.lemmas.List.{map-append}
use Rattle.std.proofs.lemmas.Option.{same_Some, slice_get_within}
use Rattle.lp_repr.specs.declared.lr1.Lr1State.{Lr1State}
use Rattle.lp_repr.specs.declared.lr1.Token.TheVariants.{Terminal}
use Rattle.lp_repr.specs.declared.numbering.SymbolNumber.TheVariants as symbol
use Rattle.lp_repr.specs.declared.repr.Grammar.{Grammar}
use Rattle.lp_repr.specs.declared.repr.TokenPattern.{TokenPattern}
use Rattle.lp_repr.specs.declared.values.RunItem.{RunItem}
use Rattle.lp_driver.specs.declared.answers.Expecting.TheVariants.{Trial}
use Rattle.lp_driver.specs.Values.{Spanned, Text, Token, Value}
use Rattle.lp_machine.specs.declared.config.Config.{Config}
use Rattle.lp_machine.specs.declared.lookup.Act.TheVariants.{Shift}
use Rattle.lp_machine.specs.GrammarTables.{grammar_tables}
use Rattle.lp_machine.specs.Lookup.{act_at}
use Rattle.lp_machine.specs.Move.{shifts}
use Rattle.lp_machine.specs.ReductionSpan.{popped}
use Rattle.lp_machine.specs.Tables.{Tables}
use Rattle.lp_core.specs.declared.value.StateType.{StateType}
use Rattle.lp_core.specs.declared.value.Tag.TheVariants as tag
use Rattle.lp_core.specs.Numbers.{fitting}
use Rattle.lp_core.specs.Datum.{Cell, Parsed, Unset}
use Rattle.lp_core.specs.Reading.{empty, wrapped, triple}
use Rattle.lp_core.specs.Store.{Program, Held, States}
use Rattle.lp_core.specs.Val.{Val, Plain}
use Rattle.lp_code_laws.specs.Ends.Ends.{Moment, steps, Eval, Returning}
use Rattle.lp_code_laws.proofs.Ends.Steps.{steps_are}
use Rattle.lp_code_laws.proofs.Ends.Tags.{slot_is}
use Rattle.lp_view.specs.PartLists.{Form, hole_of, parts_of}
use Rattle.lp_maker.specs.Making.{number_in}
use Rattle.lp_maker.specs.Numbers.{wide_number_of}
use Rattle.lp_maker.specs.Slots.{Names, after_slots, slot_among}
use Rattle.lp_maker.specs.Constructs.{one_after_another}
use Rattle.lp_code_laws.specs.Slots.Shows.{Shows, Keeps}
use Rattle.lp_code_laws.proofs.Slots.Names.{named_other}
use Rattle.lp_code_laws.proofs.Slots.Slots.{keeps_both, keeps_fewer}
use Rattle.lp_code_laws.specs.Printed.Ran.{Ran}
use Rattle.lp_bodies.specs.Arms.{Gathered}
use Rattle.lp_bodies.specs.Lines.{Lines}
use Rattle.lp_question_laws.specs.Tables.Acts.{symbol_val}
use Rattle.lp_question_laws.proofs.Gotos.Digits.{wide_number_of_decimal}
use Rattle.lp_ascent.specs.CallLines.{cells_from, call_of, with_symbol}
use Rattle.lp_ascent.specs.ShiftLines.{pattern_at}
use Rattle.lp_ascent.specs.ShiftLines as lines
use Rattle.lp_ascent.specs.Slots.{Layout, count_of, layouts_of}
use Rattle.lp_ascent_bodies.specs.declared.ascent.Lines.{Lines as Shared}
use Rattle.lp_ascent_bodies.specs.AscentArms.{Arming, shift_lines}
use Rattle.lp_ascent_bodies.specs.AscentStates.{token_match}
use Rattle.lp_turn_laws.specs.Paths.Walks.{edge_at}
use Rattle.lp_question_laws.specs.Reductions.Arguments.{ShowAll}
use Rattle.lp_question_laws.specs.Reductions.Outer.{sym_name, IsOuter, Lasts}
use Rattle.lp_question_laws.proofs.Reductions.Arguments.{show_append}
use Rattle.lp_question_laws.proofs.Reductions.Keys.{AllOuter, show_lasting, symbol_keys}
use Rattle.lp_question_laws.proofs.Reductions.Lasting.{outer_states, outer_word}
use Rattle.lp_question_laws.proofs.Reductions.Popping.{sym_apart}
use Rattle.lp_question_laws.proofs.Reductions.Texts.{AllKeys, IsKey}
use Rattle.lp_question_laws.proofs.Tokens.Known.{terminals_known}
use Rattle.lp_back_end_laws.specs.Call.Slots.{layout}
use Rattle.lp_back_end_laws.specs.Call.Handing.{HandsOn, Pushed, TakenOut, handed_slots, with_values}
use Rattle.lp_back_end_laws.specs.Call.Standing.{Holds, look_val}
use Rattle.lp_back_end_laws.specs.Call.Stretches.{Passes}
use Rattle.lp_back_end_laws.specs.Call.Turns.{ShowsFrame}
use Rattle.lp_back_end_laws.proofs.Call.CaseBodies.{shift_body, reduce_body}
use Rattle.lp_back_end_laws.proofs.Call.Cells.{emptied, Let, take_lines, all_taken, others_shown, take_form}
use Rattle.lp_back_end_laws.proofs.Call.Edges.{edge_hands, on_top_pushed}
use Rattle.lp_back_end_laws.proofs.Call.Entering.{list_out}
use Rattle.lp_back_end_laws.proofs.Call.FrameNames.{frame_cut, symbol_keeps, symbol_this, symbol_other}
use Rattle.lp_back_end_laws.proofs.Call.FrameSlots.{slot_within}
use Rattle.lp_back_end_laws.proofs.Call.HandedNames.{call_whole, shift_keys, each_shown}
use Rattle.lp_back_end_laws.proofs.Call.Items.{edge_states}
use Rattle.lp_back_end_laws.proofs.Call.Lookups.{get_dropped}
use Rattle.lp_back_end_laws.proofs.Call.Matching.{ArmAt, AtMatch}
use Rattle.lp_back_end_laws.proofs.Call.PrintedMoves.{move_parts}
use Rattle.lp_back_end_laws.proofs.Call.Pushing.{shifted_symbol, shift_pushes}
use Rattle.lp_back_end_laws.proofs.Call.Setting.{Setting}
use Rattle.lp_back_end_laws.proofs.Call.ShiftArms.{Shifts, shift_symbol, shift_ran, shift_passes, with_token, value_val}
use Rattle.lp_back_end_laws.proofs.Call.ShiftFacts.{shift_is_edge, count_small}
use Rattle.lp_back_end_laws.proofs.Call.ShiftRooms.{take_next, shift_next}
use Rattle.lp_back_end_laws.proofs.Call.ShiftedTerminals.{shifted_at}
use Rattle.lp_back_end_laws.proofs.Call.ShiftedTokens.{pattern_known, line_shifts, line_symbol, line_below, line_takes}
use Rattle.lp_back_end_laws.proofs.Call.TakenCells.{cells_apart, taken_out}
use Rattle.lp_back_end_laws.proofs.Call.TakenNames.{cell, value, cells_are, outer_none, cells_full, handed_shown}
use Rattle.lp_back_end_laws.proofs.Call.Transitions.{call_keys, return_forms, at_call, IsBack, passed, transition_passes}

-- parameters' names are no symbols'
pub keys_outer : (prefix : List ℕ) (qs : List (List ℕ)) → AllKeys prefix qs → AllOuter qs
keys_outer prefix [] h = tt
keys_outer prefix (q ∷ qs) h = (one q h.0, keys_outer prefix qs h.1)
  where
    one : (q : List ℕ) → IsKey prefix q → IsOuter q
    one [] k = absurd (omega (arith, k.some))
    one (c ∷ cs) k = outer_word c cs k.no_mark.0

outer_tokens : IsOuter (codes "~tokens")
outer_tokens = record { no_symbol = λ i h. refl; no_start = refl; no_end = refl; no_value = refl }

-- a match calls the function of an edge's target: what it is handed, and what the frame holds then
pub record CallsTarget (p : Program) (shared : Shared) (arms : Gathered) (names : Names) (given : List Val) (l callee : Layout) (f : ℕ) (c from : Config) (y : Spanned Value) (list : ℕ) (own : List Val) (m : Moment) : Type 0 where
  pub moment : Moment
  pub out : List Val
  pub cells_out : List Held
  pub took : TakenOut l (callee.fixed - 1) c.triples own out m.store.cells cells_out
  pub cells : moment.store.cells ≡ slice_set cells_out list (States (map pos from.states))
  pub taken : moment.store.taken ≡ m.store.taken
  pub calls : moment.calls ≡ m.calls
  -- the names of the lines show the same
  pub keeps : Keeps names.next m.store.env moment.store.env
  pub spare : ℕ
  pub above : names.next ≤ spare
  pub steps : ℕ
  pub none : steps ≡ 0
  pub passes : Passes p (Eval (token_match shared arms)) m steps f (given ++ (empty tag.Tuple ∷ Plain (Cell list) ∷ []) ++ handed_slots l callee out (symbol_val y)) moment (IsBack moment list (map pos from.states))
      (passed (nat_lt 1 callee.fixed) spare shared.made list (map pos c.states)) (λ v b. Returning (wrapped tag.Failure v) (slot_is spare (Plain Unset) b))

module _ {g : Grammar} {start : ℕ} {states : List Lr1State} {params : List Text} {failing : List ℕ} {items : List RunItem} {p : Program} {keys : List (List ℕ)} {given : List Val} {function action variant : ℕ → ℕ} {kind : StateType} {expected most cost : ℕ} (setting : Setting g start states params failing items p keys given function action variant kind expected most cost)
    (q : ℕ) (s : Lr1State) (state : slice_get states q ≡ Some s) {shared : Shared} {names : Names} {arms : Gathered} {many : ℕ} {c : Config} {list : ℕ} {own : List Val} {x : Spanned Token} {m : Moment} (h : AtMatch g states (grammar_tables g states Trial params failing) items kind keys given shared names many q c list own (Some x) m)
    (hold : Holds (grammar_tables g states Trial params failing) c x) (to : ℕ) (act : act_at states q (Terminal hold.index) ≡ Shift to) (pattern : TokenPattern) (is : pattern_at g hold.index ≡ Some pattern) {a : Arming}
    (arm : ArmAt p g variant (setting.code.maker q) shared names arms many (look_val (Some x)) (lines.shift_arm g.prefix (count_of (layout g states q)) pattern (call_of g (layouts_of g states) (layout g states q) to false)) a) where
  abbrev pub t : Tables
  t = grammar_tables g states Trial params failing

  abbrev pub l : Layout
  l = layout g states q

  abbrev pub callee : Layout
  callee = layout g states to

  abbrev form : Form
  form = call_of g (layouts_of g states) l to false

  abbrev line : Form
  line = lines.shift_arm g.prefix (count_of l) pattern form

  pub edge : edge_at states q (symbol.Terminal hold.index) ≡ Some to
  edge = shift_is_edge setting.over q hold.index to act

  pub hands : HandsOn l callee
  hands = edge_hands setting.over q (symbol.Terminal hold.index) to edge

  abbrev first : ℕ
  first = with_symbol l - callee.fixed

  abbrev fewer : ℕ
  fewer = callee.fixed - 1

  pub counted : first + fewer ≡ count_of l
  counted = omega (arith, hands.some_fixed, hands.fixed_within, hands.within)

  pub small : count_of l < 2 ^ 64
  small = count_small setting.over setting.symbols_few q s state

  abbrev js : List ℕ
  js = cells_from l first

  abbrev cell_of : ℕ → ℕ
  cell_of j = cell h.own_are first fewer counted small j

  abbrev value_of : ℕ → Val
  value_of j = value h.own_are first fewer counted small j

  abbrev pub y : Spanned Value
  y = shifted_symbol t items setting.never c x hold

  abbrev returning : Bool
  returning = nat_lt 1 callee.fixed

  parts : parts_of form ≡ map take_form js ++ return_forms returning
  unfolding call_of
  parts = move_parts g l callee to false

  -- ---- the room, and the lines of the symbol
  prefix_is : a.made.prefix ≡ g.prefix
  prefix_is = arm.prefix ∙ setting.code.prefix q (slice_get_within states q s state)

  room : a.names.next + 4 + length js + 1 ≤ length m.store.env
  room = omega (arith, arm.room, h.many_are, shift_next shared line form a js returning (line_shifts g.prefix (count_of l) pattern form) (line_below g.prefix (count_of l) pattern form (call_whole g (layouts_of g states) l to false)) parts)

  look_there : slice_get m.store.env shared.lookahead ≡ Some (look_val (Some x))
  look_there = subst (λ i. slice_get m.store.env i ≡ Some (look_val (Some x))) h.look_slot h.look_shown.held

  abbrev payloads : ℕ
  payloads = length pattern.holes

  abbrev l0 : Lines
  l0 = shift_symbol a.made.prefix shared a.names line

  abbrev m1 : Moment
  m1 = slot_is (a.names.next + 3) (triple x.0 (value_val payloads x.1) x.2) (with_token a.names.next x.0 x.1 x.2 m)

  ran : Ran p l0 m 0 m1
  ran =
      let k = pattern_known g (terminals_known g setting.over.grammar) setting.read.terminals_many setting.read.told hold.index pattern (shifted_at states q hold.index to s state act) is in
      shift_ran shared a.names m x.0 x.2 x.1 look_there (record { room = omega (arith, room) }) a.made.prefix line payloads
      (subst (λ pr. Shifts pr (a.names.next + 1) line payloads) (sym prefix_is) (line_takes g.prefix (count_of l) pattern form setting.read.prefix k.told (a.names.next + 1)))

  -- ---- what names show then
  symbol_name : codes "~sym" ++ hole_of 1 line ≡ sym_name (count_of l)
  symbol_name = ap (λ d. codes "~sym" ++ d) (line_symbol g.prefix (count_of l) pattern form)

  frame : ShowsFrame a.names m.store.env keys given list own
  frame = frame_cut arm.cut h.shown

  outer_then : {key : List ℕ} {u : Val} → IsOuter key → Shows a.names m.store.env key u → Shows l0.names m1.store.env key u
  outer_then {key} outer shows = symbol_other a.made.prefix shared a.names line m.store.env x.0 x.2 x.1 payloads (ap (λ n. bytes_eq n key) symbol_name ∙ outer.no_symbol (count_of l) small) shows

  slots_then : (j : ℕ) (v : Val) → slice_get own j ≡ Some v → Shows l0.names m1.store.env (sym_name j) v
  slots_then j v at =
      let less = slot_within h.own_are j v at in
      symbol_other a.made.prefix shared a.names line m.store.env x.0 x.2 x.1 payloads (ap (λ n. bytes_eq n (sym_name j)) symbol_name ∙ sym_apart (count_of l) j small (omega (arith, less, small)) (λ e. omega (arith, e, less))) (frame.slots j v at)

  top_then : Shows l0.names m1.store.env (sym_name (count_of l)) (symbol_val y)
  top_then =
      let k = pattern_known g (terminals_known g setting.over.grammar) setting.read.terminals_many setting.read.told hold.index pattern (shifted_at states q hold.index to s state act) is in
      subst (λ v. Shows l0.names m1.store.env (sym_name (count_of l)) (triple x.0 (Plain (Parsed v)) x.2)) (sym (k.value x.1))
      (subst (λ n. Shows l0.names m1.store.env n (triple x.0 (value_val payloads x.1) x.2)) symbol_name (symbol_this a.made.prefix shared a.names line m.store.env x.0 x.2 x.1 payloads (record { room = omega (arith, room) })))

  -- ---- cells are taken
  abbrev out : List Val
  out = with_values first own (popped (count_of l) c.triples)

  abbrev cells_out : List Held
  cells_out = emptied cell_of js m.store.cells

  pub took : TakenOut l (callee.fixed - 1) c.triples own out m.store.cells cells_out
  took = taken_out h.own_are cell_of (cells_are h.own_are first fewer counted small) first fewer counted h.apart

  keeps1 : Keeps a.names.next m.store.env m1.store.env
  keeps1 = symbol_keeps a.made.prefix shared a.names line m.store.env x.0 x.2 x.1 payloads

  pub taken : Let p m m1 0 (λ i j. value_of j) js (emptied cell_of js m1.store.cells) l0 (take_lines js l0)
  taken =
      all_taken m cell_of value_of js l0 m1 0 ran (record { room = omega (arith, room, keeps1.many) }) (cells_apart h.own_are cell_of (cells_are h.own_are first fewer counted small) first fewer counted h.apart)
      (cells_full h.own_are first fewer counted small l0.names m1.store.env slots_then)

  abbrev lk : Lines
  lk = take_lines js l0

  lasts : Lasts a.names m.store.env lk.names taken.env
  lasts = record {
    keeps = keeps_both keeps1 (keeps_fewer taken.keeps (omega arith));
    shown = λ key v outer shows. others_shown taken key v (outer_none h.own_are first fewer counted small key outer) (outer_then outer shows);
  }

  -- ---- what is handed on
  abbrev pub handed : List Val
  handed = handed_slots l callee out (symbol_val y)

  abbrev values : List Val
  values = given ++ (empty tag.Tuple ∷ Plain (Cell list) ∷ []) ++ handed

  handed_many : length handed ≡ count_of callee
  handed_many = omega (arith, length-drop (count_of l + 1 - count_of callee) (out ++ symbol_val y ∷ []), length-append out (symbol_val y ∷ []), took.as_many, h.own_are.count, hands.within)

  keys_are : call_keys a.made.prefix form ≡ (keys ++ codes "~tokens" ∷ codes "~states" ∷ []) ++ symbol_keys (with_symbol l - count_of callee) (length handed)
  keys_are =
      ap (λ pr. call_keys pr form) prefix_is
      ∙ shift_keys g (layouts_of g states) l to setting.read.prefix (subst (AllKeys g.prefix) setting.read.keys_are setting.read.keys_plain) (omega (arith, hands.some_fixed, hands.fixed_within)) hands.within small
      ∙ ap (λ ks. (ks ++ codes "~tokens" ∷ codes "~states" ∷ []) ++ symbol_keys (with_symbol l - count_of callee) (count_of callee)) (sym setting.read.keys_are)
      ∙ ap (λ n. (keys ++ codes "~tokens" ∷ codes "~states" ∷ []) ++ symbol_keys (with_symbol l - count_of callee) n) (sym handed_many)

  all_shown : ShowAll lk.names taken.env (call_keys a.made.prefix form) values
  all_shown =
      let two : ShowAll lk.names taken.env (codes "~tokens" ∷ codes "~states" ∷ []) (empty tag.Tuple ∷ Plain (Cell list) ∷ []) = (lasts.shown _ _ outer_tokens frame.tokens, refl, (lasts.shown _ _ outer_states frame.states, refl, tt)) in
      let before = show_append lk.names taken.env keys (codes "~tokens" ∷ codes "~states" ∷ []) given (empty tag.Tuple ∷ Plain (Cell list) ∷ []) (show_lasting keys given (keys_outer g.prefix keys setting.read.keys_plain) lasts frame.parameters) two in
      let slots = each_shown lk.names taken.env (with_symbol l - count_of callee) handed (λ i u at. handed_shown h.own_are first fewer counted small h.apart y slots_then top_then taken (with_symbol l - count_of callee + i) u (sym (get_dropped (out ++ symbol_val y ∷ []) (with_symbol l - count_of callee) i (with_symbol l - count_of callee + i) refl) ∙ at)) in
      subst (λ ks. ShowAll lk.names taken.env ks values) (sym keys_are)
      (show_append lk.names taken.env (keys ++ codes "~tokens" ∷ codes "~states" ∷ []) (symbol_keys (with_symbol l - count_of callee) (length handed)) (given ++ empty tag.Tuple ∷ Plain (Cell list) ∷ []) handed before slots)

  -- ---- the move
  abbrev ss : List ℤ
  ss = map pos c.states

  -- the machine has shifted
  abbrev pub from : Config
  from = shifts t items c to

  pub pushed : Pushed c from to y
  pushed = shift_pushes t items setting.never c x hold to h.mending

  states_then : map pos from.states ≡ ss ++ pos to ∷ []
  states_then = ap (map pos) pushed.states ∙ map-append pos c.states (to ∷ [])

  to_within : to < length states
  to_within = let w = edge_states setting.over q (symbol.Terminal hold.index) to edge in slice_get_within states to w.1 w.3

  fits : fitting kind (pos to) ≡ Some (pos to)
  fits =
      let top = on_top_pushed setting.over q (symbol.Terminal hold.index) to c from y edge h.on_top pushed in
      setting.trials.looks_up.holds from.states to (top.stands.symbols, top.stands.path) top.top

  call_number : hole_of 0 form ≡ decimal to
  unfolding call_of
  call_number = refl

  named : number_in (codes "state" ++ hole_of 0 form) a.made.names ≡ Some (function to)
  named =
      ap (λ d. number_in (codes "state" ++ d) a.made.names) call_number
      ∙ ap (λ ns. number_in (codes "state" ++ decimal to) ns) arm.knows
      ∙ setting.code.state_named q to (slice_get_within states q s state) to_within

  -- the moment of the call
  abbrev pub n : Moment
  n = at_call cell_of js taken.env list (ss ++ pos to ∷ []) m1

  states_there : slice_get (emptied cell_of js m1.store.cells) list ≡ Some (States ss)
  states_there = list_out l callee hands y list ss (map pos from.states) h.own_are h.apart took h.follows.states_are

  below : shared.made < a.names.next
  below = omega (arith, h.result_below, arm.cut.next)

  made_then : slice_get m1.store.env shared.made ≡ Some h.result
  made_then = keeps1.same shared.made below ∙ h.result_there

  list_then : Shows l0.names m1.store.env (codes "~states") (Plain (Cell list))
  list_then = outer_then outer_states frame.states

  list_apart : shared.made ≡ list_then.slot → ⊥
  list_apart e =
      let key = codes "~states" in
      let other = ap (λ n. bytes_eq n key) symbol_name ∙ outer_states.no_symbol (count_of l) small in
      let same : list_then.slot ≡ h.shown.states.slot = same_Some list_then.slot h.shown.states.slot (sym list_then.is ∙ named_other key (codes "~sym" ++ hole_of 1 line) (a.names.next + 3) (after_slots 1 (after_slots 3 a.names)) other ∙ ap (slot_among key None) arm.cut.known ∙ h.shown.states.is) in
      h.result_apart key (Plain (Cell list)) refl h.shown.states (e ∙ same)

  call_passes : Passes p (Eval (token_match shared arms)) m (steps (steps taken.count 0) 0) (function to) values n (IsBack n list (ss ++ pos to ∷ [])) (passed returning lk.names.next shared.made list ss) (λ v b. Returning (wrapped tag.Failure v) (slot_is lk.names.next (Plain Unset) b))
  call_passes =
      let body : slice_get arms.bodies arm.index ≡ Some (one_after_another (shift_lines a.made shared a.names line).parts) = arm.body ∙ ap (λ (b : Bool). Some (if b then shift_body shared line a else reduce_body shared line a)) (line_shifts g.prefix (count_of l) pattern form) in
      shift_passes shared arms a.made a.names line form m (look_val (Some x)) arm.index look_there refl arm.is body (line_below g.prefix (count_of l) pattern form (call_whole g (layouts_of g states) l to false))
      (transition_passes a.made shared form l0 js returning cell_of value_of kind (pos to) list (function to) ss h.result parts h.kind_is (ap wide_number_of call_number ∙ wide_number_of_decimal to (omega (arith, to_within, setting.states_few))) fits named taken
      (record { room = omega (arith, room, keeps1.many) }) list_then list_apart (omega (arith, below)) made_then states_there values all_shown)

  pub shift_calls : CallsTarget p shared arms names given l callee (function to) c from y list own m
  shift_calls = record {
    moment = n;
    out = out;
    cells_out = cells_out;
    took = took;
    cells = ap (λ zs. slice_set cells_out list (States zs)) (sym states_then);
    taken = refl;
    calls = refl;
    keeps = keeps_fewer lasts.keeps arm.cut.next;
    spare = lk.names.next;
    above = omega (arith, arm.cut.next, take_next js l0);
    steps = steps (steps taken.count 0) 0;
    none = omega (arith, steps_are (steps taken.count 0) 0, steps_are taken.count 0, taken.counted);
    passes = subst (λ zs. Passes p (Eval (token_match shared arms)) m (steps (steps taken.count 0) 0) (function to) values n (IsBack n list zs) (passed returning lk.names.next shared.made list ss) (λ v b. Returning (wrapped tag.Failure v) (slot_is lk.names.next (Plain Unset) b))) (sym states_then) call_passes;
  }
