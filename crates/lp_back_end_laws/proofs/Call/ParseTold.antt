-- A run of a parser by recursive ascent is told by the machine over its tables.
use Rattle.std.proofs.Common.{◌≡◌, ℕ, suc, ◌+◌, ◌*◌, ◌≤◌, false, ◌&&◌, List, [], ◌∷◌, ◌++◌, length, pos, codes, Option, Some, None, slice_get, refl, sym, ap, ◌∙◌, subst, arith, length-append}
use Rattle.std.specs.Prelude.{is_some, replicate, slice_set}
use Rattle.std.specs.List.{range_with_len}
use Rattle.std.specs.Str.{bytes_eq}
use Rattle.std.proofs.lemmas.Bool.{ne_eqb}
use Rattle.std.proofs.lemmas.List.{length-map, length-replicate}
use Rattle.std.proofs.lemmas.List.FromFn.{length-range_with_len}
use Rattle.lp_repr.specs.declared.lr1.Lr1State.{Lr1State}
use Rattle.lp_repr.specs.declared.repr.Grammar.{Grammar}
use Rattle.lp_repr.specs.declared.values.Loc.{Loc}
use Rattle.lp_repr.specs.declared.values.RunItem.{RunItem}
use Rattle.lp_repr.specs.declared.values.RunItem.TheVariants as item
use Rattle.lp_repr.specs.declared.values.ParseError.TheVariants as failure
use Rattle.lp_repr.specs.declared.values.UserError.TheVariants as user
use Rattle.lp_driver.specs.declared.answers.Expecting.TheVariants.{Trial}
use Rattle.lp_driver.specs.Values.{Spanned, Text, Token, Token_value}
use Rattle.lp_machine.specs.GrammarTables.{grammar_tables}
use Rattle.lp_machine.specs.Move.{token_in}
use Rattle.lp_machine.specs.RunEnds.{ended}
use Rattle.lp_machine.specs.Tables.{Tables}
use Rattle.lp_agrees.specs.Agrees.{Told}
use Rattle.lp_core.specs.declared.expr.Function.{Function}
use Rattle.lp_core.specs.declared.value.StateType.{StateType}
use Rattle.lp_core.specs.declared.value.Tag.TheVariants as tag
use Rattle.lp_core.specs.Datum.{Cell, Parsed, Unset}
use Rattle.lp_core.specs.Effect.{set_value}
use Rattle.lp_core.specs.Eval.{run_call}
use Rattle.lp_core.specs.Flow.{Flow, then_value, leave}
use Rattle.lp_core.specs.OpMeaning.{failure_val, place}
use Rattle.lp_core.specs.Reading.{empty, wrapped, triple}
use Rattle.lp_core.specs.Store.{Program, States}
use Rattle.lp_core.specs.Val.{Val, Plain}
use Rattle.lp_view.specs.PartLists.{Form, hole_of}
use Rattle.lp_maker.specs.Making.{Making, number_in, variant_tag}
use Rattle.lp_maker.specs.Slots.{Names}
use Rattle.lp_bodies.specs.Reductions.{function_done}
use Rattle.lp_ascent.specs.AnswerLines.{answer_name}
use Rattle.lp_ascent.specs.BuiltAscent as built
use Rattle.lp_ascent_bodies.specs.AscentStarts.{next_token, start}
use Rattle.lp_code_laws.specs.Ends.Calls.{begun, left_with}
use Rattle.lp_code_laws.specs.Ends.Ends.{Moment, moment, at, Eval, Giving, Returning, EndsIn, flow_of}
use Rattle.lp_code_laws.proofs.Ends.Calls.{enter_by}
use Rattle.lp_code_laws.proofs.Ends.Lists.{get_first, length_set}
use Rattle.lp_code_laws.proofs.Ends.Steps.{steps_are}
use Rattle.lp_code_laws.proofs.Ends.Tags.{slot_is}
use Rattle.lp_code_laws.specs.Slots.Shows.{HasRoom, Keeps}
use Rattle.lp_code_laws.proofs.Slots.Slots.{get_behind, keeps_both, keeps_set}
use Rattle.lp_parts.specs.Texts.{arguments_of}
use Rattle.lp_question_laws.specs.Reductions.Arguments.{ShowAll, names_in}
use Rattle.lp_question_laws.proofs.Reductions.Arguments.{show_moved}
use Rattle.lp_question_laws.proofs.Reductions.Texts.{AllKeys, IsKey, parameters_named}
use Rattle.lp_run.specs.ProgramRun.{by_call, parameters}
use Rattle.lp_table.specs.Starts.{Start}
use Rattle.lp_back_end_laws.specs.Call.Law.{Law, Answers}
use Rattle.lp_back_end_laws.specs.Call.Standing.{as_users, look_val}
use Rattle.lp_back_end_laws.specs.Call.Stretches.{go_on}
use Rattle.lp_back_end_laws.proofs.Call.FirstCalls.{Begins, first_is, begins_at_end, begins_on_token, enters_first, faults, same_place, token_moves}
use Rattle.lp_back_end_laws.proofs.Call.Parse.{spent_first, called_told, Tells}
use Rattle.lp_back_end_laws.proofs.Call.ParseBodies.{AreParameters, IsParameter, at_first, body_calls, body_faults, spare, start_tag}
use Rattle.lp_back_end_laws.proofs.Call.ParseLines.{end_rest}
use Rattle.lp_back_end_laws.proofs.Call.Pulls.{HasClosure, after_pull, pull_none, pull_token, pull_fault, token_val}
use Rattle.lp_back_end_laws.proofs.Call.Setting.{Setting}
use Rattle.lp_back_end_laws.proofs.Call.Settling.{Settled, Short, Comes, ends_settle, entered_calls}

-- parameters' names are none of the lines'
pub keys_are_parameters : (prefix : List ℕ) (qs : List (List ℕ)) → AllKeys prefix qs → AreParameters qs
keys_are_parameters prefix [] h = tt
keys_are_parameters prefix (q ∷ qs) h = (one q h.0, keys_are_parameters prefix qs h.1)
  where
    one : (q : List ℕ) → IsKey prefix q → IsParameter q
    one [] k = absurd (omega (arith, k.some))
    one (c ∷ cs) k =
        let apart : (rest : List ℕ) → bytes_eq (126 ∷ rest) (c ∷ cs) ≡ false = λ rest. ap (λ b. b && bytes_eq rest cs) (ne_eqb 126 c (λ e. k.no_mark.0 (sym e))) in
        record { no_lookahead = apart (codes "lookahead"); no_states = apart (codes "states") }

look_set : (look : Option (Spanned Token)) → set_value (look_val look) ≡ Some (look_val look)
look_set None = refl
look_set (Some x) = refl

module _ {g : Grammar} {start_number : ℕ} {states : List Lr1State} {params : List Text} {failing : List ℕ} {items : List RunItem} {p : Program} {keys : List (List ℕ)} {given : List Val} {function action variant : ℕ → ℕ} {kind : StateType} {expected most cost : ℕ} (setting : Setting g start_number states params failing items p keys given function action variant kind expected most cost)
    (located_is : p.located ≡ is_some g.types.loc) (made : Making) (names : Names) (st : Start) (f : ℕ) (prefix : made.prefix ≡ g.prefix) (zero_named : number_in (codes "state0") made.names ≡ Some (function 0)) (closure : HasClosure p made.item_closure)
    (tagged : variant_tag (answer_name st.nonterminal) made ≡ tag.Variant (variant setting.over.number)) (there : slice_get p.functions f ≡ Some (function_done names.next (start made names (built.first_call g states st))))
    (many : names.next ≡ length g.parameters) (shown : ShowAll names (parameters (length g.parameters)) keys given) (law : Law g states (grammar_tables g states Trial params failing) items variant most p function given) (budget : ℕ) where
  abbrev t : Tables
  t = grammar_tables g states Trial params failing

  abbrev form : Form
  form = built.first_call g states st

  abbrev fn : Function
  fn = function_done names.next (start made names form)

  abbrev vs : List Val
  vs = parameters (length g.parameters)

  abbrev outside : Moment
  outside = moment (record { env = []; cells = []; taken = 0 }) []

  abbrev m : Moment
  m = begun fn vs outside

  vs_many : length vs ≡ names.next
  vs_many = length-map (range_with_len 0 (length g.parameters)) _ ∙ length-range_with_len 0 (length g.parameters) ∙ sym many

  room : HasRoom 7 names m.store.env
  room = record { room = omega (arith, length-append vs (replicate fn.slots (Plain Unset)), vs_many, length-replicate fn.slots (Plain Unset)) }

  some : 1 ≤ most
  some = omega (arith, setting.some)

  abbrev Wanted : Flow → Type 0
  Wanted fl = Tells g states items params failing most some setting.never budget fl

  shown_there : ShowAll names m.store.env keys given
  shown_there = show_moved names names vs m.store.env keys given (λ q v h. record { slot = h.slot; is = h.is; below = h.below; held = get_first vs (replicate fn.slots (Plain Unset)) h.slot h.held }) shown

  keys_read : names_in made.prefix (hole_of 1 form) ≡ keys
  keys_read = ap (λ pr. names_in pr (arguments_of g.parameters)) prefix ∙ parameters_named g.prefix g.parameters (subst (AllKeys g.prefix) setting.read.keys_are setting.read.keys_plain) ∙ sym setting.read.keys_are

  item_there : (o : Option RunItem) → slice_get items 0 ≡ o → slice_get p.items m.store.taken ≡ o
  item_there o is = ap (λ l. slice_get l 0) setting.items_are ∙ is

  -- what was pulled is the lookahead, and state 0 is called
  module _ (look : Option (Spanned Token)) (taken : ℕ) (b : Begins t items setting.never look taken) (j : ℕ) (few : j ≤ 3 * b.moved) (three : j ≤ 3) (n : Moment) (pulled : EndsIn p (Eval (next_token made names)) m j (Giving (look_val look) n)) (keeps : Keeps names.next m.store.env n.store.env) (taken_is : n.store.taken ≡ taken) (quiet : n.calls ≡ []) where
    abbrev called : Moment
    called = at_first made names form m room (look_val look) (look_set look) j n pulled keeps

    abbrev ws : List Val
    ws = (given ++ empty tag.Tuple ∷ Plain (Cell (length n.store.cells)) ∷ []) ++ look_val look ∷ []

    answers : (after : ℕ) → Answers g states t items variant most 0 b.c [] (at called after) (run_call p (function 0) ws (at called after))
    answers after = law 0 b.c (length n.store.cells) [] ws (at called after) (enters_first setting.over b.c b.is items given look (length n.store.cells) (at called after) b.look_taken b.seen (get_behind n.store.cells (States (pos 0 ∷ [])) []) (taken_is ∙ sym b.taken_is) quiet)

    abbrev next : ℕ → Flow
    next after = leave [] 0 (then_value (run_call p (function 0) ws (at called after)) (go_on p (end_rest (start_tag made names form) (spare made names form) (spare made names form + 1))))

    pulled_told : Wanted (run_call p f vs (at outside budget))
    pulled_told = by (entered_calls p f fn vs outside called j there (sym vs_many) (function 0) ws (end_rest (start_tag made names form) (spare made names form) (spare made names form + 1)) (body_calls made names form m room (look_val look) (look_set look) j n pulled keeps (function 0) keys given zero_named keys_read (keys_are_parameters g.prefix keys setting.read.keys_plain) shown_there) budget)
      where
        by : Settled (run_call p f vs (at outside budget)) budget (suc j) called.calls next → Wanted (run_call p f vs (at outside budget))
        by (Short less spent) = spent_first g states items params failing most some setting.never budget (run_call p f vs (at outside budget)) called.calls quiet (omega (arith, less, three)) spent
        by (Comes after e is) =
            subst Wanted (sym is)
            (called_told g states items params failing most some setting.never budget setting.over variant p (function 0) b.c b.moved b.lead b.is ws called (spare made names form) (start_tag made names form) tagged
            (omega (arith, room.room, keeps.many, length_set n.store.env (names.next + 2) (look_val look), length_set (slice_set n.store.env (names.next + 2) (look_val look)) (names.next + 2 + 1) (Plain (Cell (length n.store.cells)))))
            after j (e ∙ ap suc (steps_are j after)) few (run_call p (function 0) ws (at called after)) refl (answers after))

  -- no item is left
  at_end : slice_get items 0 ≡ None → Wanted (run_call p f vs (at outside budget))
  at_end none =
      pulled_told None 0 (begins_at_end t items setting.never none) 0 (omega arith) (omega arith) (slot_is names.next (empty tag.Absent) m) (pull_none made names m (record { room = omega (arith, room.room) }) (item_there None none)) (keeps_set names.next names.next m.store.env (empty tag.Absent) (omega arith)) refl refl

  -- a token is taken
  on_token : (a : Loc) (token : Token) (b : Loc) → slice_get items 0 ≡ Some (item.Token a token b) → Wanted (run_call p f vs (at outside budget))
  on_token a token b is =
      let few = pull_token made names m (record { room = omega (arith, room.room) }) closure a token b (item_there (Some (item.Token a token b)) is) in
      let x = token_in t items a token b in
      let from : place p.located a ≡ x.0 = ap (λ c. place c a) located_is ∙ same_place (is_some g.types.loc) a in
      let to : place p.located b ≡ x.2 = ap (λ c. place c b) located_is ∙ same_place (is_some g.types.loc) b in
      let same : wrapped tag.Present (token_val p a token b) ≡ look_val (Some x) = ap (λ z. wrapped tag.Present (triple z (Plain (Parsed (Token_value token))) (place p.located b))) from ∙ ap (λ z. wrapped tag.Present (triple x.0 (Plain (Parsed (Token_value token))) z)) to in
      let keeps : Keeps names.next m.store.env (after_pull names.next m).store.env = keeps_both (keeps_set names.next names.next m.store.env (Plain Unset) (omega arith)) (keeps_set names.next (names.next + 1) _ (Plain Unset) (omega arith)) in
      pulled_told (Some x) 1 (begins_on_token t items setting.never a b token is) few.many (omega (arith, few.few, token_moves t items setting.never a b token is)) few.few (after_pull names.next m)
      (subst (λ v. EndsIn p (Eval (next_token made names)) m few.many (Giving v (after_pull names.next m))) same few.ends) keeps refl refl

  -- a fault ends the run
  on_fault : (name : Text) → slice_get items 0 ≡ Some (item.Fault name) → Wanted (run_call p f vs (at outside budget))
  on_fault name is =
      let few = pull_fault made names m (record { room = omega (arith, room.room) }) closure name (item_there (Some (item.Fault name)) is) in
      let error = wrapped tag.Failure (failure_val (failure.User (user.Fault name))) in
      by few.many few.few (ends_settle (enter_by there (sym vs_many) (body_faults made names form m few.many error (after_pull names.next m) few.ends)) budget)
    where
      by : (j : ℕ) → j ≤ 3 → Settled (run_call p f vs (at outside budget)) budget (suc j) [] (flow_of (left_with [] 0 (Returning (wrapped tag.Failure (failure_val (failure.User (user.Fault name)))) (after_pull names.next m)))) → Wanted (run_call p f vs (at outside budget))
      by j three (Short less spent) = spent_first g states items params failing most some setting.never budget (run_call p f vs (at outside budget)) [] refl (omega (arith, less, three)) spent
      by j three (Comes after e flow) =
          let lead = faults t items setting.never (item.Fault name) is in
          subst Wanted (sym flow) (1, ap (λ c. ended c.left) lead.comes, ap (λ c. as_users c.calls) lead.comes ∙ ap as_users (first_is t items setting.never).calls)

  by_item : (o : Option RunItem) → slice_get items 0 ≡ o → Wanted (run_call p f vs (at outside budget))
  by_item None is = at_end is
  by_item (Some (item.Token a token b)) is = on_token a token b is
  by_item (Some (item.Fault name)) is = on_fault name is

  -- the run is told by the machine, a move costing at most three steps more than in the law
  pub start_told : Told g states Trial items params failing (most + 3) budget (by_call p f (length g.parameters) budget)
  start_told = by_item (slice_get items 0) refl
