-- The move to another state's function, and back: the list of states gets the state and loses it, what the function gave is the result.
use Rattle.std.proofs.Common.{◌≡◌, ℕ, suc, ◌+◌, ◌<◌, length, ℤ, Bool, true, false, List, [], ◌∷◌, ◌++◌, map, codes, Some, None, refl, sym, ap, ◌∙◌, subst, arith, append_assoc, append-nil}
use Rattle.std.specs.Prelude.{slice_get, slice_set}
use Rattle.std.specs.Option.{option_map}
use Rattle.lp_core.specs.declared.expr.Target.TheVariants as target
use Rattle.lp_core.specs.declared.value.StateType.{StateType}
use Rattle.lp_core.specs.declared.value.Tag.TheVariants as tag
use Rattle.lp_core.specs.Datum.{Cell, Unset}
use Rattle.lp_core.specs.Val.{Val, Plain}
use Rattle.lp_core.specs.Numbers.{number, fitting}
use Rattle.lp_core.specs.Reading.{wrapped}
use Rattle.lp_core.specs.Store.{Store, Program, Held, Slot, States}
use Rattle.lp_core.specs.Effect.{Gave, gave, set_value, with_cell, unit, write_over, stored}
use Rattle.lp_core.specs.OpMeaning.{op_meaning}
use Rattle.lp_core.specs.CellMeaning.{cell_change, changes}
use Rattle.lp_core.specs.declared.expr.Op.TheVariants as op
use Rattle.lp_core.specs.declared.expr.Test.TheVariants as test
use Rattle.lp_core.specs.Tree.{Tree, Apply, trees_of}
use Rattle.lp_form.specs.declared.part.Part.TheVariants as part
use Rattle.lp_tree.specs.ProgramTree.{leaf}
use Rattle.lp_view.specs.PartLists.{Form, hole_of, parts_of}
use Rattle.lp_view.specs.PartLists as forms
use Rattle.lp_maker.specs.Numbers.{wide_number_of}
use Rattle.lp_maker.specs.Slots.{Names}
use Rattle.lp_maker.specs.Constructs as maker
use Rattle.lp_maker.specs.Constructs.{called, write, tried}
use Rattle.lp_maker.specs.Making.{Making, number_in, read_name, read_all}
use Rattle.lp_bodies.specs.Lines.{Lines, lines_of}
use Rattle.lp_bodies.specs.Reductions.{states}
use Rattle.lp_ascent_bodies.specs.declared.ascent.Lines.{Lines as Shared}
use Rattle.lp_ascent_bodies.specs.AscentReductions.{give_made, return_line, take_line, return_row, returns}
use Rattle.lp_ascent_bodies.specs.AscentMoves.{take_row, take_rows, push_state, state_call, call_state, transition}
use Rattle.lp_code_laws.specs.Ends.Ends.{Moment, over, steps, Eval, Sequence, Arguments, Outcome, Giving, Returning, EndsIn}
use Rattle.lp_code_laws.proofs.Ends.Rules.{plain, apply_to, give_back, argument, call, first_body, next_body}
use Rattle.lp_code_laws.proofs.Ends.Blocks.{sequence_one}
use Rattle.lp_code_laws.proofs.Ends.Calls.{joined}
use Rattle.lp_code_laws.proofs.Ends.Cells.{cell_by}
use Rattle.lp_code_laws.proofs.Ends.Cells as cells
use Rattle.lp_code_laws.proofs.Ends.Lists.{get_same, get_other, without_last_of_more}
use Rattle.lp_code_laws.proofs.Ends.Tags.{slot_is, open_slot, take_it}
use Rattle.lp_code_laws.specs.Slots.Shows.{Shows, HasRoom}
use Rattle.lp_code_laws.proofs.Slots.Slots.{next_slot}
use Rattle.lp_code_laws.specs.Printed.Ran.{Ran}
use Rattle.lp_code_laws.proofs.Printed.Lines.{read_shown, ran_part}
use Rattle.lp_question_laws.specs.Reductions.Arguments.{ShowAll, reads, names_in}
use Rattle.lp_question_laws.proofs.Reductions.Arguments.{all_read}
use Rattle.lp_back_end_laws.specs.Call.Stretches.{Rest, Nothing, Applied, Matched, Behind, CallsIn, GoesOn, Passes}
use Rattle.lp_back_end_laws.proofs.Call.Cells.{over_cells, take_form, take_lines, emptied, IsNone, Let}
use Rattle.lp_back_end_laws.proofs.Call.Loops.{made_given}
use Rattle.lp_back_end_laws.proofs.Call.Callers.{leads_calls, leads_append, leads_last, leads_argument, leads_call, calls_now, calls_apply, calls_match, calls_lines, goes_now, goes_apply, goes_match, goes_behind, left_apply, left_behind}

-- one state fewer
pub shorten_states : (p : Program) (c : ℕ) (s : Store) (l : List ℤ) (x : ℤ) → slice_get s.cells c ≡ Some (States (l ++ x ∷ [])) → op_meaning p op.Shorten (Plain (Cell c)) s ≡ Gave unit (with_cell c (States l) s)
shorten_states p c s l x is = cell_by c s (cell_change op.Shorten) is (ap (λ (r : List ℤ). changes (Some (States r))) (without_last_of_more l x))

module _ {p : Program} where
  -- arguments that are read by their names, and then the call
  pub arguments_call : (f : ℕ) (names : Names) {m : Moment} (qs : List (List ℕ)) (vs before : List Val) → ShowAll names m.store.env qs vs → CallsIn p (Arguments (target.Function f) (trees_of (reads names qs)) before) m 0 f (before ++ vs) m Nothing
  arguments_call f names {m} [] [] before h = subst (λ (us : List Val). CallsIn p (Arguments (target.Function f) (trees_of []) before) m 0 f us m Nothing) (sym (append-nil before)) calls_now
  arguments_call f names [] (v ∷ vs) before h = absurd h
  arguments_call f names (q ∷ qs) [] before h = absurd h
  arguments_call f names {m} (q ∷ qs) (v ∷ vs) before h =
      subst (λ (us : List Val). CallsIn p (Arguments (target.Function f) (trees_of (reads names (q ∷ qs))) before) m 0 f us m Nothing) (append_assoc before (v ∷ []) vs)
      (leads_calls (leads_argument (read_shown h.0 h.1)) (arguments_call f names qs vs (before ++ v ∷ []) h.2))

  -- `~states.push(n);`
  pub pushed_line : (shared : Shared) (form : Form) (l : Lines) (kind : StateType) (n : ℤ) (c : ℕ) (ss : List ℤ) {start m : Moment} {k : ℕ} → shared.kind ≡ Some kind → wide_number_of (hole_of 0 form) ≡ Some n → fitting kind n ≡ Some n → Ran p l start k m
      → Shows l.names m.store.env (codes "~states") (Plain (Cell c)) → slice_get m.store.cells c ≡ Some (States ss) → Ran p (push_state shared form l) start (steps k 0) (over (with_cell c (States (ss ++ n ∷ [])) m.store) m)
  pushed_line shared form l kind n c ss {m = m} kind_is number_is fits ran shows there =
      let one : maker.state shared.kind (wide_number_of (hole_of 0 form)) ≡ maker.fitted kind (Some n) = ap (λ o. maker.state o (wide_number_of (hole_of 0 form))) kind_is ∙ ap (maker.state (Some kind)) number_is ∙ ap (maker.fitted kind) fits in
      let given : EndsIn p (Eval (maker.fitted kind (Some n))) m 0 (Giving (number kind n) m) = plain (ap (λ o. gave (option_map (number kind) o) m.store) fits) in
      ran_part l ran (call (argument (read_shown shows refl) (argument (subst (λ (e : Tree). EndsIn p (Eval e) m 0 (Giving (number kind n) m)) (sym one) given) (joined refl (cells.push_state p c m.store 0 ss (number kind n) n there refl)))))

-- some names, and then others
reads_append : (names : Names) (a b : List (List ℕ)) → reads names (a ++ b) ≡ reads names a ++ reads names b
reads_append names [] b = refl
reads_append names (q ∷ a) b = ap (λ (ts : List Tree). read_name names q ∷ ts) (reads_append names a b)

-- what a call of a state's function hands on: parameters, the token source and the list of states, what else is printed
abbrev pub call_keys : List ℕ → Form → List (List ℕ)
call_keys prefix form = (names_in prefix (hole_of 1 form) ++ codes "~tokens" ∷ codes "~states" ∷ []) ++ names_in prefix (hole_of 2 form)

handed_read : (prefix : List ℕ) (names : Names) (form : Form) → (read_all prefix names (hole_of 1 form) ++ read_name names (codes "~tokens") ∷ states names ∷ []) ++ read_all prefix names (hole_of 2 form) ≡ reads names (call_keys prefix form)
handed_read prefix names form =
    let a = names_in prefix (hole_of 1 form) in
    let b = codes "~tokens" ∷ codes "~states" ∷ [] in
    let c = names_in prefix (hole_of 2 form) in
    ap (λ (l : List Tree). (l ++ reads names b) ++ read_all prefix names (hole_of 2 form)) (all_read prefix names (hole_of 1 form))
    ∙ ap (λ (l : List Tree). (reads names a ++ reads names b) ++ l) (all_read prefix names (hole_of 2 form))
    ∙ ap (λ (l : List Tree). l ++ reads names c) (sym (reads_append names a b))
    ∙ sym (reads_append names (a ++ b) c)

-- a slot that isn't the name's is written
pub beside : {names : Names} {env : List Val} {q : List ℕ} {u : Val} (x : ℕ) (w : Val) (h : Shows names env q u) → (x ≡ h.slot → ⊥) → Shows names (slice_set env x w) q u
beside {env = env} x w h other = record { slot = h.slot; is = h.is; below = h.below; held = get_other env x h.slot w other ∙ h.held }

module _ {p : Program} where
  pub state_called : (made : Making) (form : Form) (names : Names) (f : ℕ) (vs : List Val) {m : Moment} → number_in (codes "state" ++ hole_of 0 form) made.names ≡ Some f → ShowAll names m.store.env (call_keys made.prefix form) vs → CallsIn p (Eval (state_call made form names)) m 0 f vs m Nothing
  state_called made form names f vs {m} named shown =
      let args = (read_all made.prefix names (hole_of 1 form) ++ read_name names (codes "~tokens") ∷ states names ∷ []) ++ read_all made.prefix names (hole_of 2 form) in
      subst (λ (e : Tree). CallsIn p (Eval e) m 0 f vs m Nothing) (sym (ap (called args) named))
      (subst (λ (ts : List Tree). CallsIn p (Eval (maker.call_function f ts)) m 0 f vs m Nothing) (sym (handed_read made.prefix names form)) (leads_calls leads_call (arguments_call f names (call_keys made.prefix form) vs [] shown)))

-- the caller's slots are as they were, and the list of states too
pub record IsBack (n : Moment) (c : ℕ) (ss : List ℤ) (b : Moment) : Type 0 where
  pub env : b.store.env ≡ n.store.env
  pub list : slice_get b.store.cells c ≡ Some (States ss)

-- the slots after the call, with what it gave in the result's slot; the list has lost the state
abbrev pub result_slots : ℕ → ℕ → Val → List Val → List Val
result_slots x made v env = slice_set (slice_set env x (Plain Unset)) made v

abbrev pub with_result : ℕ → ℕ → ℕ → List ℤ → Val → Moment → Moment
with_result x made c ss v b = over (record { env = result_slots x made v b.store.env; cells = slice_set b.store.cells c (States ss); taken = b.store.taken }) b

-- the frame answers what the callee answered, or goes on
abbrev pub passed : Bool → ℕ → ℕ → ℕ → List ℤ → Val → Moment → Outcome
passed true x made c ss v b = Returning (wrapped tag.Success v) (with_result x made c ss v b)
passed false x made c ss v b = Giving unit (with_result x made c ss v b)

-- what is left of the line that calls
abbrev line_rest : ℕ → ℕ → Rest
line_rest x made =
    Applied (op.Write made)
    (Matched x (maker.here (test.Is tag.Success) 0 ∷ maker.here (test.Is tag.Failure) 1 ∷ [])
    (trees_of (maker.opened x (maker.take_slot x) ∷ maker.opened x (maker.give_back (Apply (op.Wrap tag.Failure) (maker.take_slot x))) ∷ maker.stuck ∷ [])) Nothing)

module _ {p : Program} (x made : ℕ) where
  line_success : (v old result : Val) (b : Moment) → set_value v ≡ Some v → slice_get b.store.env x ≡ Some old → slice_get (slice_set b.store.env x (Plain Unset)) made ≡ Some result → GoesOn p (line_rest x made) (wrapped tag.Success v) b 0 (Giving unit (slot_is made v (slot_is x (Plain Unset) b)))
  line_success v old result b set there slot =
      goes_apply (goes_match goes_now refl (ap (write_over x (wrapped tag.Success v) b.store) there) (first_body (open_slot x tag.Success v b there (take_it x v b there set)))) (ap (λ o. stored (write_over made v (slot_is x (Plain Unset) b).store o)) slot)

  line_failure : (v old : Val) (b : Moment) → set_value v ≡ Some v → slice_get b.store.env x ≡ Some old → GoesOn p (line_rest x made) (wrapped tag.Failure v) b 0 (Returning (wrapped tag.Failure v) (slot_is x (Plain Unset) b))
  line_failure v old b set there =
      left_apply (goes_match goes_now refl (ap (write_over x (wrapped tag.Failure v) b.store) there) (next_body (first_body (open_slot x tag.Failure v b there (give_back (apply_to (take_it x v b there set) refl))))))

-- what is left of the lines of a move that calls, whether the frame returns then or not
abbrev back_rest : Shared → Names → Rest
back_rest shared names = Behind (trees_of (Apply op.Shorten (states names) ∷ [])) (line_rest names.next shared.made)

abbrev pub move_rest : Shared → Names → Bool → Rest
move_rest shared names false = back_rest shared names
move_rest shared names true = Behind (trees_of (give_made shared ∷ [])) (back_rest shared names)

module _ (shared : Shared) (names : Names) (m : Moment) (c : ℕ) (ss : List ℤ) (n : ℤ) (result : Val) (room : HasRoom 1 names m.store.env) (shows : Shows names m.store.env (codes "~states") (Plain (Cell c))) (apart : shared.made ≡ shows.slot → ⊥) (below : shared.made < names.next) (there : slice_get m.store.env shared.made ≡ Some result) where
  -- the line that calls, once it is back
  back_slot : (b : Moment) → b.store.env ≡ m.store.env → (old : Val) × (slice_get b.store.env names.next ≡ Some old)
  back_slot b back = let s = next_slot room in (s.0, ap (λ (e : List Val). slice_get e names.next) back ∙ s.1)

  back_made : (b : Moment) → IsBack m c (ss ++ n ∷ []) b → slice_get (slice_set b.store.env names.next (Plain Unset)) shared.made ≡ Some result
  back_made b back = get_other b.store.env names.next shared.made (Plain Unset) (λ e. omega (arith, e, below)) ∙ ap (λ (e : List Val). slice_get e shared.made) back.env ∙ there

  back_shows : (v : Val) (b : Moment) → IsBack m c (ss ++ n ∷ []) b → Shows names (result_slots names.next shared.made v b.store.env) (codes "~states") (Plain (Cell c))
  back_shows v b back =
      let bare = slice_set b.store.env names.next (Plain Unset) in
      let held : slice_get (slice_set bare shared.made v) shows.slot ≡ Some (Plain (Cell c)) =
      get_other bare shared.made shows.slot v apart ∙ get_other b.store.env names.next shows.slot (Plain Unset) (λ e. omega (arith, e, shows.below)) ∙ ap (λ (e : List Val). slice_get e shows.slot) back.env ∙ shows.held in
      record { slot = shows.slot; is = shows.is; below = shows.below; held = held }

  module _ {p : Program} where
    back_success : (v : Val) (b : Moment) → set_value v ≡ Some v → IsBack m c (ss ++ n ∷ []) b → GoesOn p (back_rest shared names) (wrapped tag.Success v) b 0 (Giving unit (with_result names.next shared.made c ss v b))
    back_success v b set back =
        goes_behind (line_success names.next shared.made v (back_slot b back.env).0 result b set (back_slot b back.env).1 (back_made b back))
        (sequence_one (apply_to (read_shown (back_shows v b back) refl) (shorten_states p c (slot_is shared.made v (slot_is names.next (Plain Unset) b)).store ss n back.list)))

    back_failure : (v : Val) (b : Moment) → set_value v ≡ Some v → b.store.env ≡ m.store.env → GoesOn p (back_rest shared names) (wrapped tag.Failure v) b 0 (Returning (wrapped tag.Failure v) (slot_is names.next (Plain Unset) b))
    back_failure v b set back = left_behind (line_failure names.next shared.made v (back_slot b back).0 b set (back_slot b back).1)

    goes_success : (returning : Bool) (v : Val) (b : Moment) → set_value v ≡ Some v → IsBack m c (ss ++ n ∷ []) b → GoesOn p (move_rest shared names returning) (wrapped tag.Success v) b 0 (passed returning names.next shared.made c ss v b)
    goes_success false v b set back = back_success v b set back
    goes_success true v b set back =
        goes_behind (back_success v b set back) (sequence_one (made_given shared (get_same (slice_set b.store.env names.next (Plain Unset)) shared.made (back_made b back)) set))

    goes_failure : (returning : Bool) (v : Val) (b : Moment) → set_value v ≡ Some v → b.store.env ≡ m.store.env → GoesOn p (move_rest shared names returning) (wrapped tag.Failure v) b 0 (Returning (wrapped tag.Failure v) (slot_is names.next (Plain Unset) b))
    goes_failure false v b set back = back_failure v b set back
    goes_failure true v b set back = left_behind (back_failure v b set back)

    module _ (made : Making) (form : Form) (parts : List Tree) (f : ℕ) (vs : List Val) {start : Moment} {k : ℕ} (ran : Ran p (lines_of names parts) start k m) (named : number_in (codes "state" ++ hole_of 0 form) made.names ≡ Some f) (shown : ShowAll names m.store.env (call_keys made.prefix form) vs) where
      back_calls : CallsIn p (Sequence (trees_of (call_state made shared form (lines_of names parts)).parts) (Plain Unset)) start (steps k 0) f vs m (back_rest shared names)
      back_calls =
          let one = write shared.made (tried names.next (state_call made form names)) in
          calls_lines (parts ++ one ∷ []) _ (leads_calls (leads_append parts (one ∷ []) ran.ends) (leads_calls leads_last (calls_apply (calls_match (state_called made form names f vs named shown)))))

      move_calls : (returning : Bool) → CallsIn p (Sequence (trees_of (return_line shared returning (call_state made shared form (lines_of names parts))).parts) (Plain Unset)) start (steps k 0) f vs m (move_rest shared names returning)
      move_calls false = back_calls
      move_calls true = calls_lines (call_state made shared form (lines_of names parts)).parts _ back_calls

      -- the lines of a move, where those before its call have run
      pub move_passes : (returning : Bool) → Passes p (Sequence (trees_of (return_line shared returning (call_state made shared form (lines_of names parts))).parts) (Plain Unset)) start (steps k 0) f vs m (IsBack m c (ss ++ n ∷ [])) (passed returning names.next shared.made c ss) (λ v b. Returning (wrapped tag.Failure v) (slot_is names.next (Plain Unset) b))
      move_passes returning = record { rest = move_rest shared names returning; calls = move_calls returning; success = goes_success returning; failure = goes_failure returning }

-- ---- the whole move
-- the line that says that the frame returns
abbrev pub return_forms : Bool → List Form
return_forms false = []
return_forms true = leaf part.ReturnLine [] ∷ []

take_rows_by : (js : List ℕ) (rest : List Form) (l : Lines) → forms.over take_row l (map take_form js ++ rest) ≡ forms.over take_row (take_lines js l) rest
take_rows_by [] rest l = refl
take_rows_by (j ∷ js) rest l = take_rows_by js rest (take_line (take_form j) l)

returns_by : (js : List ℕ) (rest : List Form) → forms.over return_row false (map take_form js ++ rest) ≡ forms.over return_row false rest
returns_by [] rest = refl
returns_by (j ∷ js) rest = returns_by js rest

no_rows : (returning : Bool) (l : Lines) → forms.over take_row l (return_forms returning) ≡ l
no_rows false l = refl
no_rows true l = refl

last_row : (returning : Bool) → forms.over return_row false (return_forms returning) ≡ returning
last_row false = refl
last_row true = refl

module _ (form : Form) (js : List ℕ) (returning : Bool) (parts : parts_of form ≡ map take_form js ++ return_forms returning) where
  pub take_rows_are : (l : Lines) → take_rows form l ≡ take_lines js l
  take_rows_are l = ap (forms.over take_row l) parts ∙ take_rows_by js (return_forms returning) l ∙ no_rows returning (take_lines js l)

  pub returns_are : returns form ≡ returning
  returns_are = ap (forms.over return_row false) parts ∙ returns_by js (return_forms returning) ∙ last_row returning

-- a cell that isn't among those that are emptied
pub emptied_other : (cell : ℕ → ℕ) (js : List ℕ) (cells : List Held) (c : ℕ) → ((i j : ℕ) → slice_get js i ≡ Some j → cell j ≡ c → ⊥) → slice_get (emptied cell js cells) c ≡ slice_get cells c
emptied_other cell [] cells c apart = refl
emptied_other cell (j ∷ js) cells c apart = emptied_other cell js (slice_set cells (cell j) (Slot None)) c (λ i x at. apart (suc i) x at) ∙ get_other cells (cell j) c (Slot None) (apart 0 j refl)

-- the moment of the call: cells are taken out, the list has the new state
abbrev pub at_call : (ℕ → ℕ) → List ℕ → List Val → ℕ → List ℤ → Moment → Moment
at_call cell js env c ss m = over_cells env (slice_set (emptied cell js m.store.cells) c (States ss)) m

-- the list of states is no symbol
states_none : (js : List ℕ) → IsNone js (codes "~states")
states_none [] = tt
states_none (j ∷ js) = (refl, states_none js)

module _ {p : Program} (made : Making) (shared : Shared) (form : Form) (l : Lines) (js : List ℕ) (returning : Bool) (cell : ℕ → ℕ) (value : ℕ → Val) (kind : StateType) (n : ℤ) (c f : ℕ) (ss : List ℤ) (result : Val) {start m : Moment} {k : ℕ}
    (parts : parts_of form ≡ map take_form js ++ return_forms returning) (kind_is : shared.kind ≡ Some kind) (number_is : wide_number_of (hole_of 0 form) ≡ Some n) (fits : fitting kind n ≡ Some n) (named : number_in (codes "state" ++ hole_of 0 form) made.names ≡ Some f)
    (taken : Let p start m k (λ i j. value j) js (emptied cell js m.store.cells) l (take_lines js l)) (room : HasRoom (length js + 1) l.names m.store.env) (list : Shows l.names m.store.env (codes "~states") (Plain (Cell c))) (apart : shared.made ≡ list.slot → ⊥) (below : shared.made < l.names.next)
    (there : slice_get m.store.env shared.made ≡ Some result) (states_there : slice_get (emptied cell js m.store.cells) c ≡ Some (States ss)) where
  -- the call is made, and what it gives is the result
  pub transition_passes : (vs : List Val) → ShowAll (take_lines js l).names taken.env (call_keys made.prefix form) vs
      → Passes p (Sequence (trees_of (transition made shared form l).parts) (Plain Unset)) start (steps (steps taken.count 0) 0) f vs (at_call cell js taken.env c (ss ++ n ∷ []) m)
      (IsBack (at_call cell js taken.env c (ss ++ n ∷ []) m) c (ss ++ n ∷ [])) (passed returning (take_lines js l).names.next shared.made c ss) (λ v b. Returning (wrapped tag.Failure v) (slot_is (take_lines js l).names.next (Plain Unset) b))
  transition_passes vs shown =
      let names = (take_lines js l).names in
      let env = taken.env in
      let m1 = over_cells env (emptied cell js m.store.cells) m in
      let shows : Shows names env (codes "~states") (Plain (Cell c)) = record { slot = list.slot; is = taken.known (codes "~states") (states_none js) ∙ list.is; below = omega (arith, list.below, taken.next); held = taken.keeps.same list.slot list.below ∙ list.held } in
      let m2 = at_call cell js env c (ss ++ n ∷ []) m in
      let pushed : Ran p (push_state shared form (take_lines js l)) start (steps taken.count 0) m2 = pushed_line shared form (take_lines js l) kind n c ss kind_is number_is fits taken.ran shows states_there in
      let fewer : HasRoom 1 names env = record { room = omega (arith, room.room, taken.next, taken.keeps.many) } in
      let made_there : slice_get env shared.made ≡ Some result = taken.keeps.same shared.made below ∙ there in
      let moved = move_passes shared names m2 c ss n result fewer shows apart (omega (arith, below, taken.next)) made_there made form (push_state shared form (take_lines js l)).parts f vs pushed named shown returning in
      subst (λ (b : Bool). Passes p (Sequence (trees_of (return_line shared b (call_state made shared form (push_state shared form (take_rows form l)))).parts) (Plain Unset)) start (steps (steps taken.count 0) 0) f vs m2 (IsBack m2 c (ss ++ n ∷ [])) (passed returning names.next shared.made c ss) (λ v b. Returning (wrapped tag.Failure v) (slot_is names.next (Plain Unset) b))) (sym (returns_are form js returning parts))
      (subst (λ (t : Lines). Passes p (Sequence (trees_of (return_line shared returning (call_state made shared form (push_state shared form t))).parts) (Plain Unset)) start (steps (steps taken.count 0) 0) f vs m2 (IsBack m2 c (ss ++ n ∷ [])) (passed returning names.next shared.made c ss) (λ v b. Returning (wrapped tag.Failure v) (slot_is names.next (Plain Unset) b))) (sym (take_rows_are form js returning parts l)) moved)
