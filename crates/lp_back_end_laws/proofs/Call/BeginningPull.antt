-- A call of a state's function that pulls its lookahead.
use Rattle.std.proofs.Common.{◌≡◌, ◌⊎◌, ℕ, suc, ◌+◌, ◌≤◌, Bool, true, false, List, [], ◌∷◌, ◌++◌, length, map, pos, Option, Some, None, slice_get, refl, sym, ap, ◌∙◌, subst, inl, inr, arith, codes, append_assoc, append-nil}
use Rattle.std.specs.Prelude.{not, slice_set, if◌then◌else◌}
use Rattle.lp_repr.specs.declared.lr1.Lr1State.{Lr1State}
use Rattle.lp_repr.specs.declared.repr.Grammar.{Grammar}
use Rattle.lp_repr.specs.declared.values.Loc.{Loc}
use Rattle.lp_repr.specs.declared.values.RunItem.{RunItem}
use Rattle.lp_repr.specs.declared.values.RunItem.TheVariants as item
use Rattle.lp_repr.specs.declared.values.UserError.TheVariants as user
use Rattle.lp_repr.specs.declared.values.ParseError.TheVariants as failure
use Rattle.lp_driver.specs.declared.answers.Expecting.TheVariants.{Trial}
use Rattle.lp_driver.specs.Values.{Spanned, Text, Token, Token_value}
use Rattle.lp_core.specs.declared.value.StateType.{StateType}
use Rattle.lp_core.specs.declared.value.Tag.TheVariants as tag
use Rattle.lp_core.specs.Datum.{Parsed, Unset}
use Rattle.lp_core.specs.Eval.{run_block, run_call}
use Rattle.lp_core.specs.Flow.{State, Flow, Returns}
use Rattle.lp_core.specs.OpMeaning.{place, failure_val}
use Rattle.lp_core.specs.Reading.{empty, triple, wrapped}
use Rattle.lp_core.specs.Prefix.{IsPrefix}
use Rattle.lp_core.specs.Store.{Program, States}
use Rattle.lp_core.specs.Tree.{Tree, Apply, trees_of}
use Rattle.lp_core.specs.declared.expr.Op.TheVariants as op
use Rattle.lp_maker.specs.Constructs.{write}
use Rattle.lp_ascent_bodies.specs.AscentReductions.{top_slot}
use Rattle.lp_turn_laws.specs.Alike.Course.{Leads}
use Rattle.lp_core.specs.Val.{Val, Plain}
use Rattle.lp_machine.specs.declared.config.Config.{Config}
use Rattle.lp_machine.specs.GrammarTables.{grammar_tables}
use Rattle.lp_machine.specs.Move.{located, token_in, pulls}
use Rattle.lp_machine.specs.Moves.{ready}
use Rattle.lp_machine.specs.Tables.{Tables}
use Rattle.lp_maker.specs.Slots.{Names}
use Rattle.lp_ascent.specs.Slots.{has_lookahead}
use Rattle.lp_ascent_bodies.specs.AscentStarts.{next_token, token_line}
use Rattle.lp_ascent_bodies.specs.AscentStates.{Stating}
use Rattle.lp_bodies.specs.Lines.{Lines}
use Rattle.lp_code_laws.specs.Ends.Ends.{Moment, at, moment, Eval, Sequence, Giving, Returning, EndsIn}
use Rattle.lp_code_laws.proofs.Ends.Blocks.{append_left}
use Rattle.lp_code_laws.proofs.Ends.Steps.{steps_are}
use Rattle.lp_code_laws.proofs.Ends.Tags.{slot_is}
use Rattle.lp_code_laws.specs.Slots.Shows.{HasRoom, Keeps}
use Rattle.lp_code_laws.proofs.Slots.Slots.{keeps_both, keeps_set}
use Rattle.lp_code_laws.proofs.Printed.Lines.{no_lines}
use Rattle.lp_back_end_laws.specs.Call.Frames.{AreSlots, AreApart, comes_as_cell}
use Rattle.lp_back_end_laws.specs.Call.Law.{Answers}
use Rattle.lp_back_end_laws.specs.Call.Slots.{layout}
use Rattle.lp_back_end_laws.specs.Call.Standing.{EndsThere, Follows, IsTaken, OnTop, Sees, as_users, look_val}
use Rattle.lp_back_end_laws.proofs.Call.Arriving.{Arrived, arrives}
use Rattle.lp_back_end_laws.proofs.Call.Beginning.{Begins, answered, least_cost, begins_in, call_is, at_left, goes_on, lines, spent_early}
use Rattle.lp_back_end_laws.proofs.Call.Cells.{slot_form, slot_lines}
use Rattle.lp_back_end_laws.proofs.Call.FirstCalls.{same_place}
use Rattle.lp_back_end_laws.proofs.Call.FunctionCode.{maker_of, slots_of, within}
use Rattle.lp_back_end_laws.proofs.Call.Moves.{pull}
use Rattle.lp_back_end_laws.proofs.Call.Pulling.{begun_at, handed_vals, pulled_ran, vals_many, env_many}
use Rattle.lp_back_end_laws.proofs.Call.Pulls.{HasClosure, after_pull, pull_fault, pull_none, pull_token, token_val}
use Rattle.lp_back_end_laws.proofs.Call.RowsBefore.{begin_at, match_rows, cells_next, names_within}
use Rattle.lp_back_end_laws.proofs.Call.Seen.{end_seen, token_same, token_seen}
use Rattle.lp_back_end_laws.proofs.Call.Setting.{Setting}
use Rattle.lp_back_end_laws.proofs.Call.Settling.{Settled, Short, Comes, ends_settle}
use Rattle.lp_back_end_laws.proofs.Call.StateBodies.{token_left}
use Rattle.lp_back_end_laws.proofs.Call.StateHeaders.{look_keys}
use Rattle.lp_ascent.specs.StateLines.{new_cells}

-- behind a line there are those of slots
more_parts : (js : List ℕ) (l : Lines) → (es : List Tree) × ((slot_lines js l).parts ≡ l.parts ++ es)
more_parts [] l = ([], sym (append-nil l.parts))
more_parts (j ∷ js) l =
    let next = slot_lines (j ∷ []) l in
    let r = more_parts js next in
    let one = write l.names.next (Apply op.NewCell (top_slot (slot_form j) l.names)) in
    (one ∷ r.0, r.1 ∙ append_assoc l.parts (one ∷ []) r.0)

module _ {g : Grammar} {start : ℕ} {states : List Lr1State} {params : List Text} {failing : List ℕ} {items : List RunItem} {p : Program} {keys : List (List ℕ)} {given : List Val} {function action variant : ℕ → ℕ} {kind : StateType} {expected most cost : ℕ}
    (setting : Setting g start states params failing items p keys given function action variant kind expected most cost) (q : ℕ) (s : Lr1State) (there : slice_get states q ≡ Some s) where
  abbrev t : Tables
  t = grammar_tables g states Trial params failing

  module _ (c : Config) (list : ℕ) (slots : List Val) (st : State) (b : ℕ) (left_is : st.left ≡ suc b) (handed : has_lookahead (slots_of setting q s there) ≡ false) (none : c.lookahead ≡ None) (ends : EndsThere c) (is_ready : c ≡ ready t items c)
      (on_top : OnTop states q c) (mending : c.mending ≡ None) (are : AreSlots (layout g states q) (comes_as_cell (layout g states q)) 0 c.triples st.store.cells slots) (apart : AreApart slots) (follows : Follows c list st) where
    pulls_it : not (has_lookahead (slots_of setting q s there)) ≡ true
    pulls_it = ap not handed

    looks : length {A = Val} [] ≡ length (look_keys (slots_of setting q s there))
    looks = sym (ap (λ (b : Bool). length (if b then codes "~lookahead" ∷ [] else [])) handed)

    abbrev m0 : Moment
    m0 = begun_at setting q s there list slots are.count st [] looks

    abbrev names : Names
    names = (begin_at setting q s there).lines.names

    abbrev the_call : Flow
    the_call = run_call p (function q) (handed_vals given list [] slots) st

    the_call_is : the_call ≡ goes_on setting q s there st (run_block p (trees_of (lines setting q s there)) (Plain Unset) (at m0 b))
    the_call_is = ap (run_call p (function q) (handed_vals given list [] slots)) (at_left setting q s there st b left_is) ∙ call_is setting q s there (handed_vals given list [] slots) (moment st.store st.calls) b (vals_many setting q s there list slots are.count st [] looks)

    room : HasRoom 2 names m0.store.env
    room =
        let rows = ap (λ (u : Stating). u.lines.names.next) (match_rows setting q s there true pulls_it) in
        let more = cells_next (new_cells (slots_of setting q s there)) (token_line (maker_of setting q s there) (begin_at setting q s there).lines) in
        let within = names_within setting q s there in
        let many = env_many setting q s there list slots are.count st [] looks in
        record { room = omega (arith, rows, more, within, many) }

    closure : HasClosure p (maker_of setting q s there).item_closure
    closure = setting.code.closure q (within setting q s there)

    -- a lookahead was pulled: the machine goes to a place where it sees it
    pulled_to : (now : Config) (look : Option (Spanned Token)) (moved j : ℕ) (n : Moment) → j ≤ 3 → ((moved ≡ 0) × (j ≡ 0)) ⊎ (moved ≡ 1) → EndsIn p (Eval (next_token (maker_of setting q s there) names)) m0 j (Giving (look_val look) n) → Keeps names.next m0.store.env n.store.env
        → n.store.cells ≡ st.store.cells → n.store.taken ≡ now.taken → n.calls ≡ st.calls → IsTaken items look → Sees t items now look → now ≡ record c { taken = now.taken; last = now.last; lookahead = now.lookahead; left = now.left } → Leads t items c now moved → Begins setting q s there c list slots st the_call
    pulled_to now look moved j n few how ends_so keeps same_cells same_taken same_calls look_taken seen same leads =
        let r = pulled_ran setting q s there list slots are.count st look looks pulls_it j n ends_so keeps in
        let states_same = ap (λ (x : Config). x.states) same in
        let triples_same = ap (λ (x : Config). x.triples) same in
        let calls_same = ap (λ (x : Config). x.calls) same in
        let there_cells : r.0.moment.store.cells ≡ st.store.cells = ap (λ (m : Moment). m.store.cells) r.2 ∙ same_cells in
        let top : OnTop states q now = subst (OnTop states q) (sym same) (record { stands = on_top.stands; top = on_top.top }) in
        let now_follows : Follows now list (at r.0.moment 0) = record {
          states_are = ap (λ cells. slice_get cells list) there_cells ∙ follows.states_are ∙ ap (λ xs. Some (States (map pos xs))) (sym states_same);
          taken = ap (λ (m : Moment). m.store.taken) r.2 ∙ same_taken;
          calls = ap (λ (m : Moment). m.calls) r.2 ∙ same_calls ∙ follows.calls ∙ ap as_users (sym calls_same);
        } in
        let now_are : AreSlots (layout g states q) (comes_as_cell (layout g states q)) 0 now.triples r.0.moment.store.cells slots = subst (λ cells. AreSlots (layout g states q) (comes_as_cell (layout g states q)) 0 now.triples cells slots) (sym there_cells) (subst (λ ts. AreSlots (layout g states q) (comes_as_cell (layout g states q)) 0 ts st.store.cells slots) (sym triples_same) are) in
        let a = arrives setting q s there true pulls_it now list slots look m0 top (ap (λ (x : Config). x.mending) same ∙ mending) look_taken seen r.0 now_follows now_are apart in
        let a2 : Arrived setting q s there now list slots look m0 j st.store.cells = subst (λ (k : ℕ). Arrived setting q s there now list slots look m0 k st.store.cells) r.1 (subst (λ cells. Arrived setting q s there now list slots look m0 r.0.count cells) there_cells a) in
        begins_in setting q s there c now list slots st look m0 j b moved the_call left_is few the_call_is leads states_same triples_same calls_same how a2

    none_keeps : (v : Val) → Keeps names.next m0.store.env (slice_set m0.store.env names.next v)
    none_keeps v = keeps_set names.next names.next m0.store.env v (omega arith)

    both_keep : Keeps names.next m0.store.env (after_pull names.next m0).store.env
    both_keep = keeps_both (none_keeps (Plain Unset)) (keeps_set names.next (names.next + 1) (slice_set m0.store.env names.next (Plain Unset)) (Plain Unset) (omega arith))

    -- none is left
    begins_end : slice_get items c.taken ≡ None → Begins setting q s there c list slots st the_call
    begins_end past =
        let at_items : slice_get p.items m0.store.taken ≡ None = ap (λ is. slice_get is st.store.taken) setting.items_are ∙ ap (slice_get items) follows.taken ∙ past in
        pulled_to c None 0 0 (slot_is names.next (empty tag.Absent) m0) (omega arith) (inl (refl, refl)) (pull_none (maker_of setting q s there) names m0 room at_items) (none_keeps (empty tag.Absent)) refl follows.taken refl tt (end_seen t items setting.never c none is_ready ends past) refl (record { comes = refl; before = λ k e h. omega arith })

    -- a token
    begins_token : (a d : Loc) (token : Token) → slice_get items c.taken ≡ Some (item.Token a token d) → Begins setting q s there c list slots st the_call
    begins_token a d token next =
        let now = pulls t items c (Some (item.Token a token d)) in
        let x = token_in t items a token d in
        let at_items : slice_get p.items m0.store.taken ≡ Some (item.Token a token d) = ap (λ is. slice_get is st.store.taken) setting.items_are ∙ ap (slice_get items) follows.taken ∙ next in
        let few = pull_token (maker_of setting q s there) names m0 room closure a token d at_items in
        let same_val : wrapped tag.Present (token_val p a token d) ≡ look_val (Some x) =
        ap (λ (l : Bool). wrapped tag.Present (triple (place l a) (Plain (Parsed (Token_value token))) (place l d))) setting.located_is
        ∙ ap (λ (y : Loc). wrapped tag.Present (triple y (Plain (Parsed (Token_value token))) (place t.is_located d))) (same_place t.is_located a)
        ∙ ap (λ (y : Loc). wrapped tag.Present (triple (located t.is_located a) (Plain (Parsed (Token_value token))) y)) (same_place t.is_located d) in
        let same = token_same t items setting.never c none is_ready a d token next in
        let taken = ap (λ (y : Config). y.taken) same in
        let last = ap (λ (y : Config). y.last) same in
        pulled_to now (Some x) 1 few.many (after_pull names.next m0) few.few (inr refl) (subst (λ v. EndsIn p (Eval (next_token (maker_of setting q s there) names)) m0 few.many (Giving v (after_pull names.next m0))) same_val few.ends) both_keep refl (ap (λ k. k + 1) follows.taken ∙ sym taken) refl (c.taken, a, d, next)
        (token_seen t items setting.never c none is_ready a d token next) (same ∙ ap (λ (k : ℕ). record c { taken = k; last = x.2; lookahead = now.lookahead; left = now.left }) (sym taken) ∙ ap (λ (k : Loc). record c { taken = now.taken; last = k; lookahead = now.lookahead; left = now.left }) (sym last))
        (pull t items c (item.Token a token d) none is_ready next)

    -- a fault
    begins_fault : (name : Text) → slice_get items c.taken ≡ Some (item.Fault name) → Begins setting q s there c list slots st the_call
    begins_fault name next =
        let at_items : slice_get p.items m0.store.taken ≡ Some (item.Fault name) = ap (λ is. slice_get is st.store.taken) setting.items_are ∙ ap (slice_get items) follows.taken ∙ next in
        let few = pull_fault (maker_of setting q s there) names m0 room closure name at_items in
        let l = (begin_at setting q s there).lines in
        let left = token_left (maker_of setting q s there) l (no_lines l.names m0) _ _ few.ends in
        let more = more_parts (new_cells (slots_of setting q s there)) (token_line (maker_of setting q s there) l) in
        let parts : lines setting q s there ≡ (token_line (maker_of setting q s there) l).parts ++ more.0 = ap (λ (u : Stating). u.lines.parts) (match_rows setting q s there true pulls_it) ∙ more.1 in
        let fault = wrapped tag.Failure (failure_val (failure.User (user.Fault name))) in
        let all : EndsIn p (Sequence (trees_of (lines setting q s there)) (Plain Unset)) m0 few.many (Returning fault (after_pull names.next m0)) = subst (λ es. EndsIn p (Sequence (trees_of es) (Plain Unset)) m0 few.many (Returning fault (after_pull names.next m0))) (sym parts) (append_left (token_line (maker_of setting q s there) l).parts more.0 left) in
        by few.many few.few (pull t items c (item.Fault name) none is_ready next) (ends_settle all b)
      where
        by : (many : ℕ) → many ≤ 3 → Leads t items c (pulls t items c (Some (item.Fault name))) 1 → Settled (run_block p (trees_of (lines setting q s there)) (Plain Unset) (at m0 b)) b many st.calls (λ left. Returns (wrapped tag.Failure (failure_val (failure.User (user.Fault name)))) (at (after_pull names.next m0) left)) → Begins setting q s there c list slots st the_call
        by many few leads (Short less spent) =
            answered (subst (Answers g states t items variant most q c slots st) (sym (the_call_is ∙ ap (goes_on setting q s there st) spent.is)) (spent_early setting q s there c st spent.calls (subst (IsPrefix spent.calls) follows.calls spent.first) (omega (arith, less, few, left_is))))
        by many few leads (Comes left steps_is ran) =
            answered (subst (Answers g states t items variant most q c slots st) (sym (the_call_is ∙ ap (goes_on setting q s there st) ran)) (inr (record {
              made = 1;
              failure = failure.User (user.Fault name);
              over = ap (λ (x : Config). x.left) leads.comes;
              value = refl;
              calls = follows.calls ∙ ap (λ (x : Config). as_users x.calls) (sym leads.comes);
              steps = (let five = least_cost most 1 setting.some in omega (arith, five, left_is, steps_is, steps_are many left, few));
            })))

    -- one of these
    pub begins_pulling : Begins setting q s there c list slots st the_call
    begins_pulling = by (slice_get items c.taken) refl
      where
        by : (o : Option RunItem) → slice_get items c.taken ≡ o → Begins setting q s there c list slots st the_call
        by None e = begins_end e
        by (Some (item.Token a token d)) e = begins_token a d token e
        by (Some (item.Fault name)) e = begins_fault name e
