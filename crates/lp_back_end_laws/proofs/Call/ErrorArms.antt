-- The arm of an error: `~expected` is called over the list of states, and the error is returned, at the lookahead or at the place of the end.
use Rattle.std.proofs.Common.{◌≡◌, ◌⊎◌, inl, inr, ⊎_elim, ℕ, ◌+◌, ◌*◌, ◌<◌, ◌≤◌, false, map, pos, List, [], ◌∷◌, length, codes, decimal, Option, Some, None, refl, sym, ap, ◌∙◌, subst, arith}
use Rattle.std.specs.Prelude.{slice_get, slice_set, Err, IsSome}
use Rattle.std.specs.Option.{option_map}
use Rattle.std.specs.Str.{bytes_eq}
use Rattle.lp_repr.specs.declared.values.Loc.{Loc}
use Rattle.lp_repr.specs.declared.values.Loc.TheVariants.{Default}
use Rattle.lp_repr.specs.declared.values.ParseError.TheVariants as failure
use Rattle.lp_driver.specs.Values.{Text, Token, Spanned, Value, Failure}
use Rattle.lp_core.specs.declared.expr.Op.TheVariants as op
use Rattle.lp_core.specs.declared.value.Tag.TheVariants as tag
use Rattle.lp_core.specs.Datum.{Cell, Unset}
use Rattle.lp_core.specs.Effect.{set_value, stored, write_over}
use Rattle.lp_core.specs.JoinMeaning.{texts_of, unrecognized_token, unrecognized_eof}
use Rattle.lp_core.specs.OpMeaning.{failure_val}
use Rattle.lp_core.specs.Reading.{wrapped, empty, location}
use Rattle.lp_core.specs.Eval.{run}
use Rattle.lp_core.specs.Flow.{Flow, Returns, Spent, then_value}
use Rattle.lp_core.specs.Prefix.{IsPrefix}
use Rattle.lp_core.specs.Store.{Program, UserCall, Slot, States}
use Rattle.lp_core.specs.declared.value.StateType.{StateType}
use Rattle.lp_core.specs.Tree.{Tree, trees_of}
use Rattle.lp_core.specs.Val.{Val, Plain}
use Rattle.lp_question_laws.specs.Tables.Acts.{symbol_val}
use Rattle.lp_form.specs.declared.part.Part.TheVariants as part
use Rattle.lp_view.specs.PartLists.{Form, parts_of}
use Rattle.lp_tree.specs.ProgramTree.{leaf}
use Rattle.lp_maker.specs.Slots.{Names, after_slots}
use Rattle.lp_maker.specs.Constructs.{called}
use Rattle.lp_maker.specs.Making.{Making, number_in}
use Rattle.lp_bodies.specs.Lines.{numbered}
use Rattle.lp_bodies.specs.Reductions.{part_function, states}
use Rattle.lp_ascent_bodies.specs.AscentErrors as errors
use Rattle.lp_ascent_bodies.specs.AscentErrors.{unrecognized, expected_list, list_names, error_names, found_location, error_value, other_cells, chained, chain}
use Rattle.lp_code_laws.specs.Ends.Ends.{Moment, at, steps, Eval, Enter, Task, Giving, Returning, EndsIn}
use Rattle.lp_code_laws.proofs.Ends.Calls.{arguments_done, enter, joined_found}
use Rattle.lp_code_laws.proofs.Ends.Blocks.{sequence_one}
use Rattle.lp_code_laws.proofs.Ends.Cells.{is_empty_cell, read_in_cell}
use Rattle.lp_code_laws.proofs.Ends.Lists.{get_same, get_other, length_set}
use Rattle.lp_code_laws.proofs.Ends.Rules.{apply_to, argument, block, block_left, block_next, call, give_back, if_false, plain}
use Rattle.lp_code_laws.proofs.Ends.Spent.{spent_eval}
use Rattle.lp_code_laws.proofs.Ends.Steps.{steps_are}
use Rattle.lp_code_laws.proofs.Ends.Tags.{slot_is, on_none, on_some}
use Rattle.lp_code_laws.proofs.Ends.Values as values
use Rattle.lp_code_laws.specs.Slots.Shows.{Shows, HasRoom}
use Rattle.lp_code_laws.proofs.Slots.Names.{kept, let_other, shows_after, shows_other}
use Rattle.lp_code_laws.proofs.Slots.Slots.{keeps_both, keeps_set, next_slot}
use Rattle.lp_machine.specs.StackMachine as machine
use Rattle.lp_machine.specs.StackMachine.{failure_at}
use Rattle.lp_machine.specs.declared.config.Config.{Config}
use Rattle.lp_machine.specs.Move.{moves}
use Rattle.lp_machine.specs.Moves.{errs}
use Rattle.lp_machine.specs.RunEnds.{ended}
use Rattle.lp_machine.specs.Tables.{Tables}
use Rattle.lp_repr.specs.declared.lr1.Lr1State.{Lr1State}
use Rattle.lp_repr.specs.declared.repr.Grammar.{Grammar}
use Rattle.lp_repr.specs.declared.values.RunItem.{RunItem}
use Rattle.lp_driver.specs.declared.answers.Expecting.TheVariants.{Trial}
use Rattle.lp_turn_laws.specs.Alike.Course.{Leads}
use Rattle.lp_turn_laws.specs.Paths.Over.{IsOver}
use Rattle.lp_turn_laws.specs.Paths.Standing.{IsOnPath}
use Rattle.lp_back_end_laws.proofs.Call.Expected.{HasTrials}
use Rattle.lp_back_end_laws.proofs.Call.Errors.{Complete, Short, error_listed, least_moves}
use Rattle.lp_back_end_laws.proofs.Call.Shortage.{short_or}
use Rattle.lp_code_laws.proofs.Printed.Lines.{call_by_name, read_shown}
use Rattle.lp_question_laws.specs.Reductions.Outer.{sym_name}
use Rattle.lp_back_end_laws.specs.Call.Standing.{token_triple, look_val}
use Rattle.lp_back_end_laws.specs.Call.Stretches.{Nothing, Applied, Behind, go_on, CallsIn, GoesOn}
use Rattle.lp_back_end_laws.proofs.Call.Callers.{leads_argument, leads_block, leads_call, leads_calls, calls_apply, calls_line, calls_now, goes_apply, goes_behind, goes_now}

-- in so many steps at most it returns this error, without more calls of user code
pub record Fails (p : Program) (t : Task) (m : Moment) (most : ℕ) (e : Failure) : Type 0 where
  pub many : ℕ
  pub few : many ≤ most
  pub after : Moment
  pub ends : EndsIn p t m many (Returning (wrapped tag.Failure (failure_val e)) after)
  pub calls : after.calls ≡ m.calls

-- ---- the error, from its list
module _ {p : Program} (names : Names) (token expected : ℕ) (place : Tree) (v : Val) (found : List Text) (read : texts_of p v ≡ Some found) (set : set_value v ≡ Some v) {m : Moment} {old : Val} (apart : token ≡ expected → ⊥)
    (there : slice_get m.store.env token ≡ Some old) (listed : slice_get m.store.env expected ≡ Some v) where
  -- at a token
  pub token_fails : (x : Spanned Token) → Shows names m.store.env (codes "~lookahead") (look_val (Some x)) → Fails p (Eval (unrecognized names token expected place)) m 0 (failure.UnrecognizedToken x found)
  token_fails x shown =
      let env = m.store.env in
      let opened = slice_set env token (token_triple x) in
      let at_token : slice_get opened token ≡ Some (token_triple x) = get_same env token there in
      let at_list : slice_get (slice_set opened token (Plain Unset)) expected ≡ Some v = get_other opened token expected (Plain Unset) apart ∙ get_other env token expected (token_triple x) apart ∙ listed in
      record {
        many = 0;
        few = omega arith;
        after = _;
        ends = give_back (apply_to (on_some (read_shown shown refl) there
            (call (argument (values.take at_token refl) (argument (values.take at_list set) (joined_found (unrecognized_token p (token_triple x) v) refl refl (ap (option_map (λ (texts : List Text). failure_val (failure.UnrecognizedToken x texts))) read)))))) refl);
        calls = refl;
      }

  -- at the end, whose place is given
  pub end_fails : (l : Loc) (k most : ℕ) → k ≤ most → Shows names m.store.env (codes "~lookahead") (look_val None) → EndsIn p (Eval place) (slot_is token (empty tag.Absent) m) k (Giving (location l) (slot_is token (empty tag.Absent) m))
      → Fails p (Eval (unrecognized names token expected place)) m most (failure.UnrecognizedEof l found)
  end_fails l k most few shown placed =
      let env = m.store.env in
      let at_list : slice_get (slice_set env token (empty tag.Absent)) expected ≡ Some v = get_other env token expected (empty tag.Absent) apart ∙ listed in
      record {
        many = steps k 0;
        few = omega (arith, few, steps_are k 0);
        after = _;
        ends = give_back (apply_to (on_none (read_shown shown refl) there
            (call (argument placed (argument (values.take at_list set) (joined_found (unrecognized_eof p (location l) v) refl refl (ap (option_map (λ (texts : List Text). failure_val (failure.UnrecognizedEof l texts))) read)))))) refl);
        calls = refl;
      }

-- ---- the place of the end
module _ {p : Program} (made : Making) (names : Names) {m : Moment} where
  -- without symbols
  pub default_placed : EndsIn p (Eval (errors.location made names (leaf part.LocationDefault []))) m 0 (Giving (location Default) m)
  default_placed = plain refl

  module _ (j : ℕ) (x : Spanned Value) where
    -- of a top slot by value
    pub fixed_placed : Shows names m.store.env (sym_name j) (symbol_val x) → EndsIn p (Eval (errors.location made names (leaf part.LocationFixed (decimal j ∷ [])))) m 0 (Giving (location x.2) m)
    fixed_placed shown = apply_to (read_shown shown refl) refl

    -- of a top slot that is a full cell
    pub chain_placed : (form top : Form) (c : ℕ) → slice_get (parts_of form) 0 ≡ Some top → numbered (codes "~sym") top ≡ sym_name j → slice_get p.functions (length made.functions) ≡ Some (part_function 2)
        → Shows names m.store.env (sym_name j) (Plain (Cell c)) → slice_get m.store.cells c ≡ Some (Slot (Some (symbol_val x))) → EndsIn p (Eval (chain made names form)) m 1 (Giving (location x.2) m)
    chain_placed form top c first named ends shown there =
        let at : Shows names m.store.env (numbered (codes "~sym") top) (Plain (Cell c)) = subst (λ (q : List ℕ). Shows names m.store.env q (Plain (Cell c))) (sym named) shown in
        subst (λ (o : Option Form). EndsIn p (Eval (errors.chain_by made (errors.first_cell names o) (other_cells names form))) m 1 (Giving (location x.2) m)) (sym first)
        (if_false (apply_to (read_shown at refl) (is_empty_cell p c m.store (Some (symbol_val x)) there)) refl
        (call (argument (apply_to (read_shown at refl) (read_in_cell p c m.store (symbol_val x) there)) (arguments_done (enter ends refl (apply_to (values.read refl refl) refl) refl)))))

-- ---- the arm
module _ (made : Making) (names : Names) (form : Form) where
  -- where the end is
  abbrev pub place : Tree
  place = found_location made (error_names names) (slice_get (parts_of form) 0)

  -- what is returned, once the list is there
  abbrev pub returned : Tree
  returned = unrecognized (error_names names) (list_names names).next names.next place

  module _ {p : Program} (f list : ℕ) {m : Moment} where
    -- the call
    pub error_calls : number_in (codes "expected") made.names ≡ Some f → Shows names m.store.env (codes "~states") (Plain (Cell list))
        → CallsIn p (Eval (error_value made names form)) m 0 f (Plain (Cell list) ∷ []) m (Behind (trees_of (returned ∷ [])) (Applied (op.Write names.next) Nothing))
    error_calls named shown =
        leads_calls leads_block (calls_line (calls_apply
        (subst (λ (o : Option ℕ). CallsIn p (Eval (called (states names ∷ []) o)) m 0 f (Plain (Cell list) ∷ []) m Nothing) (sym named)
        (leads_calls leads_call (leads_calls (leads_argument (read_shown shown refl)) calls_now)))))

    -- what is done with the list
    pub error_goes : {v old : Val} {k : ℕ} {after : Moment} {e : Failure} → slice_get m.store.env names.next ≡ Some old → EndsIn p (Eval returned) (slot_is names.next v m) k (Returning (wrapped tag.Failure (failure_val e)) after)
        → GoesOn p (Behind (trees_of (returned ∷ [])) (Applied (op.Write names.next) Nothing)) v m k (Returning (wrapped tag.Failure (failure_val e)) after)
    error_goes {v} there h = goes_behind (goes_apply goes_now (ap (λ o. stored (write_over names.next v m.store o)) there)) (sequence_one h)

  -- with the list in its slot the place of the end is found so, in at most a step
  pub record Placed (p : Program) (m : Moment) (l : Loc) : Type 0 where
    pub many : ℕ
    pub few : many ≤ 1
    pub ends : (v : Val) → EndsIn p (Eval place) (slot_is (names.next + 1) (empty tag.Absent) (slot_is names.next v m)) many (Giving (location l) (slot_is (names.next + 1) (empty tag.Absent) (slot_is names.next v m)))

  module _ (env : List Val) (q : List ℕ) (u : Val) (other : bytes_eq (codes "~expected") q ≡ false) (shown : Shows names env q u) where
    -- other names show what they showed
    pub still_shown : (v : Val) → Shows (error_names names) (slice_set env names.next v) q u
    still_shown v = shows_after 1 (let_other (codes "~expected") v other shown)

    pub shown_at_end : (v w : Val) → Shows (error_names names) (slice_set (slice_set env names.next v) (names.next + 1) w) q u
    shown_at_end v w =
        shows_after 1 (shows_other (codes "~expected") other (kept shown (keeps_both (keeps_set names.next names.next env v (omega arith)) (keeps_set names.next (names.next + 1) (slice_set env names.next v) w (omega arith)))))

  -- the slots of the list and of the token are there
  module _ (env : List Val) (v : Val) (room : HasRoom 2 names env) where
    list_there : (old : Val) × (slice_get env names.next ≡ Some old)
    list_there = next_slot room

    token_there : (old : Val) × (slice_get (slice_set env names.next v) (names.next + 1) ≡ Some old)
    token_there =
        let fits : HasRoom 1 (after_slots 1 names) (slice_set env names.next v) = record { room = omega (arith, room.room, length_set env names.next v) } in
        next_slot fits

    listed : slice_get (slice_set env names.next v) names.next ≡ Some v
    listed = get_same env names.next list_there.1

  -- the error is returned
  module _ {p : Program} {m : Moment} (room : HasRoom 2 names m.store.env) (v : Val) (found : List Text) (read : texts_of p v ≡ Some found) (set : set_value v ≡ Some v) (last : Loc) where
    pub list_fails : (token : Option (Spanned Token)) → Shows names m.store.env (codes "~lookahead") (look_val token) → (token ≡ None → Placed p m last) → Fails p (Eval returned) (slot_is names.next v m) 1 (failure_at last token found)
    list_fails None shown placed =
        let l = placed refl in
        end_fails (error_names names) (names.next + 1) names.next place v found read set (λ e. omega (arith, e)) (token_there m.store.env v room).1 (listed m.store.env v room) last l.many 1 l.few (still_shown m.store.env (codes "~lookahead") (look_val None) refl shown v) (l.ends v)
    list_fails (Some x) shown placed =
        let h = token_fails (error_names names) (names.next + 1) names.next place v found read set (λ e. omega (arith, e)) (token_there m.store.env v room).1 (listed m.store.env v room) x (still_shown m.store.env (codes "~lookahead") (look_val (Some x)) refl shown v) in
        record { many = h.many; few = omega (arith, h.few); after = h.after; ends = h.ends; calls = h.calls }

    -- after the call, in its steps and at most one
    pub arm_ends : {f list k many : ℕ} {e : Failure} {after : Moment} → number_in (codes "expected") made.names ≡ Some f → Shows names m.store.env (codes "~states") (Plain (Cell list)) → EndsIn p (Enter f (Plain (Cell list) ∷ [])) m k (Giving v m)
        → EndsIn p (Eval returned) (slot_is names.next v m) many (Returning (wrapped tag.Failure (failure_val e)) after) → EndsIn p (Eval (error_value made names form)) m (steps k many) (Returning (wrapped tag.Failure (failure_val e)) after)
    arm_ends {f} named shown ends h =
        block (block_next (values.write (call_by_name (codes "expected") (states names ∷ []) made f named (argument (read_shown shown refl) (arguments_done ends))) (list_there m.store.env v room).1) (block_left h))

-- ---- the error of a state, with a budget
module _ {g : Grammar} {start : ℕ} {states_ : List Lr1State} {t : Tables} (over : IsOver g start states_ t) {p : Program} {kind : StateType} {f : ℕ} (has : HasTrials p kind states_ t f) (items : List RunItem) (trial : t.expecting ≡ Trial)
    (made : Making) (names : Names) (form : Form) (named : number_in (codes "expected") made.names ≡ Some f)
    (c : Config) (token : Option (Spanned Token)) (path : IsOnPath states_ c.states) (error : c ≡ errs t items c token false) (list : ℕ) (m : Moment) (there : slice_get m.store.cells list ≡ Some (States (map pos c.states)))
    (room : HasRoom 2 names m.store.env) (look : Shows names m.store.env (codes "~lookahead") (look_val token)) (shown : Shows names m.store.env (codes "~states") (Plain (Cell list))) (placed : token ≡ None → Placed made names form p m c.last) where
  -- it returns the error with which the machine's run ends
  pub record ErrorEnds (b : ℕ) : Type 0 where
    pub moved : ℕ
    pub found : List Text
    pub after : Moment
    pub left : ℕ
    pub runs : run p (error_value made names form) (at m b) ≡ Returns (wrapped tag.Failure (failure_val (failure_at c.last token found))) (at after left)
    pub calls : after.calls ≡ m.calls
    pub steps : b ≤ left + 5 * moved + 2
    pub leads : Leads t items c (machine.over c (Err (failure_at c.last token found))) moved

  -- or it is spent, and the steps were too few for the machine's moves
  pub record ErrorShort (b : ℕ) : Type 0 where
    pub calls : List UserCall
    pub runs : run p (error_value made names form) (at m b) ≡ Spent calls
    pub first : IsPrefix calls m.calls
    pub early : (k : ℕ) → IsSome (ended (moves t items k c).left) → b < 5 * k + 2

  complete : (b : ℕ) → Complete over has items trial c token path error m.store.cells list there m.store.taken m.calls m.store.env → ErrorEnds b ⊎ ErrorShort b
  complete b x =
      let h = list_fails made names form room x.value x.found x.read x.set c.last token look placed in
      let ends = arm_ends made names form room x.value x.found x.read x.set c.last named shown x.ends h.ends in
      let total = steps_are x.steps h.many in
      let one = h.few in
      let few = x.few in
      ⊎_elim
      (λ (less : b < steps x.steps h.many).
      let s = spent_eval ends b less in
      inr (record {
        calls = s.calls;
        runs = s.is;
        first = subst (IsPrefix s.calls) h.calls s.first;
        early = λ k e. (let least : x.made ≤ k = least_moves t items c _ x.made x.leads k e in omega (arith, few, one, total, less, least));
      }))
      (λ (r : (left : ℕ) × (b ≡ steps (steps x.steps h.many) left)).
      let all = steps_are (steps x.steps h.many) r.0 in
      let is = r.1 in
      inl (record {
        moved = x.made;
        found = x.found;
        after = h.after;
        left = r.0;
        runs = ap (λ (n : ℕ). run p (error_value made names form) (at m n)) r.1 ∙ ends.runs r.0;
        calls = h.calls;
        steps = omega (arith, few, one, total, all, is);
        leads = x.leads;
      }))
      (short_or b (steps x.steps h.many))

  short : (b : ℕ) → Short over has items trial c token path error m.store.cells list there m.store.taken m.calls m.store.env b → ErrorShort b
  short b x =
      let few = x.early in
      record {
        calls = x.calls;
        runs = (error_calls made names form f list named shown).runs b ∙ ap (λ (fl : Flow). then_value fl (go_on p (Behind (trees_of (returned made names form ∷ [])) (Applied (op.Write names.next) Nothing)))) x.runs;
        first = x.first;
        early = λ k e. (let less = x.early k e in omega (arith, less));
      }

  pub error_ends : (b : ℕ) → ErrorEnds b ⊎ ErrorShort b
  error_ends b =
      ⊎_elim (λ (x : Complete over has items trial c token path error m.store.cells list there m.store.taken m.calls m.store.env). complete b x)
      (λ (x : Short over has items trial c token path error m.store.cells list there m.store.taken m.calls m.store.env b). inr (short b x))
      (error_listed over has items trial c token path error m.store.cells list there m.store.taken m.calls m.store.env b)
