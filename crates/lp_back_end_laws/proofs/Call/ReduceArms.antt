-- The arm of a reduction: cells are taken out, the action is called over their values, and what it gives is the result.
use Rattle.std.proofs.Common.{◌≡◌, ℕ, ◌+◌, ◌<◌, ◌≤◌, Bool, true, false, List, [], ◌∷◌, ◌++◌, map, codes, decimal, Some, refl, sym, ap, ◌∙◌, subst, arith}
use Rattle.std.specs.Prelude.{slice_get, slice_set, if◌then◌else◌}
use Rattle.std.specs.Str.{bytes_eq}
use Rattle.lp_repr.specs.declared.values.Loc.{Loc}
use Rattle.lp_core.specs.declared.value.Tag.{Tag}
use Rattle.lp_core.specs.declared.value.Tag.TheVariants as tag
use Rattle.lp_core.specs.Datum.{Unset}
use Rattle.lp_core.specs.Effect.{set_value, unit}
use Rattle.lp_core.specs.Val.{Val, Plain}
use Rattle.lp_core.specs.Reading.{wrapped, triple, location}
use Rattle.lp_core.specs.Store.{Program, Held, UserCall}
use Rattle.lp_core.specs.Tree.{Tree, trees_of}
use Rattle.lp_form.specs.declared.part.Part.TheVariants as part
use Rattle.lp_tree.specs.ProgramTree.{leaf}
use Rattle.lp_build.specs.declared.ascent_reduce.AscentSpan.{AscentSpan}
use Rattle.lp_build.specs.declared.ascent_reduce.AscentSpan.TheVariants as span
use Rattle.lp_build.specs.Ascent.{ascent_span}
use Rattle.lp_view.specs.PartLists.{Form, hole_of, parts_of}
use Rattle.lp_view.specs.PartLists as forms
use Rattle.lp_maker.specs.Slots.{Names, after_slots, slot_of}
use Rattle.lp_maker.specs.Constructs.{one_after_another}
use Rattle.lp_maker.specs.Making.{Making, number_in, call_named, variant_tag}
use Rattle.lp_bodies.specs.Lines.{Lines, lines_of}
use Rattle.lp_bodies.specs.Reductions.{Work, work_of, span_popped}
use Rattle.lp_ascent_bodies.specs.declared.ascent.Lines.{Lines as Shared}
use Rattle.lp_ascent_bodies.specs.AscentReductions.{take_line, ascent_call, ascent_call_line, bottom_line, with_lookahead_start, ascent_line, ascent_lines, return_row, returns, made_value, made_line, return_line, ascent_reduce}
use Rattle.lp_code_laws.specs.Ends.Ends.{Moment, moment, steps, Eval, Enter, Sequence, Outcome, Giving, Returning, EndsIn}
use Rattle.lp_code_laws.proofs.Ends.Rules.{apply_to, apply_left, argument, call, block, block_left}
use Rattle.lp_code_laws.proofs.Ends.Blocks.{append, append_left, sequence_one}
use Rattle.lp_code_laws.proofs.Ends.Calls.{joined}
use Rattle.lp_code_laws.proofs.Ends.Lists.{get_same, length_set}
use Rattle.lp_code_laws.proofs.Ends.Steps.{steps_are, ends_in}
use Rattle.lp_code_laws.proofs.Ends.Tags.{slot_is, tried_success, tried_failure}
use Rattle.lp_code_laws.proofs.Ends.Values.{write}
use Rattle.lp_code_laws.specs.Slots.Shows.{Shows, HasRoom, Keeps}
use Rattle.lp_code_laws.proofs.Slots.Names.{let_this, named_other}
use Rattle.lp_code_laws.proofs.Slots.Slots.{keeps_both, keeps_set, next_slot}
use Rattle.lp_code_laws.specs.Printed.Ran.{Ran}
use Rattle.lp_code_laws.proofs.Printed.Lines.{read_shown, call_by_name, ran_part, ran_let}
use Rattle.lp_question_laws.specs.Reductions.Arguments.{ShowAll, reads, names_in}
use Rattle.lp_question_laws.proofs.Reductions.Arguments.{arguments_read, all_read}
use Rattle.lp_back_end_laws.proofs.Call.Cells.{over_cells, take_form, take_lines, IsNone, Let}
use Rattle.lp_back_end_laws.proofs.Call.Loops.{result_of, made_given}
use Rattle.lp_back_end_laws.proofs.Call.Places.{Stands}
use Rattle.lp_back_end_laws.proofs.Call.Transitions.{return_forms}

-- ---- the action
abbrev pub call_form : Bool → ℕ → List ℕ → List ℕ → Form
call_form fallible action generics args = leaf (if fallible then part.AscentCallFallible else part.AscentCall) (decimal action ∷ generics ∷ args ∷ [])

-- the same slots and cells, after these calls of user code
abbrev pub called : List UserCall → Moment → Moment
called later m = moment m.store later

-- lines have let the nonterminal be this value; other names show what they showed, in the same slots
pub record Valued (p : Program) (start m : Moment) (k used : ℕ) (w : Val) (later : List UserCall) (l after : Lines) : Type 0 where
  pub env : List Val
  pub count : ℕ
  pub ran : Ran p after start count (moment (record m.store { env = env }) later)
  pub counted : count ≡ k
  pub next : after.names.next ≡ l.names.next + used
  pub keeps : Keeps l.names.next m.store.env env
  pub shown : Shows after.names env (codes "~nt") w
  pub known : (q : List ℕ) → bytes_eq (codes "~nt") q ≡ false → slot_of q after.names ≡ slot_of q l.names

module _ {p : Program} (made : Making) (action : ℕ) (generics args : List ℕ) (f : ℕ) (named : number_in (codes "super::action" ++ decimal action) made.names ≡ Some f) (l : Lines) {start m : Moment} {k j : ℕ} (ran : Ran p l start k m) (vs : List Val) (shown : ShowAll l.names m.store.env (names_in made.prefix args) vs) (later : List UserCall) where
  action_ends : (fallible : Bool) (w : Val) → EndsIn p (Enter f vs) m j (Giving w (called later m)) → EndsIn p (Eval (ascent_call made (call_form fallible action generics args) l.names)) m j (Giving w (called later m))
  action_ends fallible w ends =
      subst (λ (ts : List Tree). EndsIn p (Eval (call_named (codes "super::action" ++ decimal action) ts made)) m j (Giving w (called later m))) (sym (all_read made.prefix l.names args))
      (call_by_name (codes "super::action" ++ decimal action) (reads l.names (names_in made.prefix args)) made f named (arguments_read f l.names (names_in made.prefix args) vs [] shown ends))

  -- an action that can't fail
  pub plain_valued : (w : Val) → EndsIn p (Enter f vs) m j (Giving w (called later m)) → HasRoom 1 l.names m.store.env → Valued p start m (k + j) 1 w later l (ascent_call_line made (call_form false action generics args) l)
  plain_valued w ends room = record {
    env = slice_set m.store.env l.names.next w;
    count = steps k j;
    ran = ran_let l (codes "~nt") 0 ran (action_ends false w ends) room;
    counted = steps_are k j;
    next = omega arith;
    keeps = keeps_set l.names.next l.names.next m.store.env w (omega arith);
    shown = let_this (codes "~nt") l.names m.store.env w room;
    known = λ q other. named_other q (codes "~nt") l.names.next (after_slots 1 l.names) other;
  }

  -- one that can, and doesn't
  pub tried_valued : (w : Val) → set_value w ≡ Some w → EndsIn p (Enter f vs) m j (Giving (wrapped tag.Success w) (called later m)) → HasRoom 2 l.names m.store.env → Valued p start m (k + j) 2 w later l (ascent_call_line made (call_form true action generics args) l)
  tried_valued w set ends room =
      let l0 = lines_of (after_slots 1 l.names) l.parts in
      let bare = slice_set m.store.env l.names.next (Plain Unset) in
      let one : HasRoom 1 l.names m.store.env = record { room = omega (arith, room.room) } in
      let fits : HasRoom 1 l0.names bare = record { room = omega (arith, room.room, length_set m.store.env l.names.next (Plain Unset)) } in
      let given = tried_success (action_ends true (wrapped tag.Success w) ends) (next_slot one).1 set in
      record {
        env = slice_set bare l0.names.next w;
        count = steps k (steps j 0);
        ran = ran_let l0 (codes "~nt") 0 (record { value = ran.value; ends = ran.ends }) given fits;
        counted = omega (arith, steps_are k (steps j 0), steps_are j 0);
        next = omega arith;
        keeps = keeps_both (keeps_set l.names.next l.names.next m.store.env (Plain Unset) (omega arith)) (keeps_set l.names.next l0.names.next bare w (omega arith));
        shown = let_this (codes "~nt") l0.names bare w fits;
        known = λ q other. named_other q (codes "~nt") l0.names.next (after_slots 1 l0.names) other;
      }

  -- one that fails: its error is returned
  pub tried_returns : (e : Val) → set_value e ≡ Some e → EndsIn p (Enter f vs) m j (Giving (wrapped tag.Failure e) (called later m)) → HasRoom 1 l.names m.store.env
      → EndsIn p (Sequence (trees_of (ascent_call_line made (call_form true action generics args) l).parts) (Plain Unset)) start (steps k (steps j 0)) (Returning (wrapped tag.Failure e) (slot_is l.names.next (Plain Unset) (called later m)))
  tried_returns e set ends room = append l.parts _ ran.ends (block_left (apply_left (tried_failure (action_ends true (wrapped tag.Failure e) ends) (next_slot room).1 set)))

-- ---- the result
-- `~result = (~lookahead, ..);` and, where something was popped, its return
abbrev pub answered : Bool → ℕ → Val → Moment → Outcome
answered true x v m = Returning (wrapped tag.Success v) (slot_is x v m)
answered false x v m = Giving unit (slot_is x v m)

module _ {p : Program} (shared : Shared) (l : Lines) {start m : Moment} {k : ℕ} (variant : ℕ) (look w old : Val) (from to : Loc) (ran : Ran p l start k m) (look_shown : Shows l.names m.store.env (codes "~lookahead") look) (look_set : set_value look ≡ Some look) (from_shown : Shows l.names m.store.env (codes "~start") (location from))
    (to_shown : Shows l.names m.store.env (codes "~end") (location to)) (shown : Shows l.names m.store.env (codes "~nt") w) (set : set_value w ≡ Some w) (there : slice_get m.store.env shared.made ≡ Some old) where
  made_ends : EndsIn p (Eval (made_value (tag.Variant variant) l.names)) m 0 (Giving (result_of look (wrapped (tag.Variant variant) (triple from w to))) m)
  made_ends =
      call (argument (read_shown look_shown look_set) (argument (apply_to (call (argument (read_shown from_shown refl) (argument (read_shown shown set) (argument (read_shown to_shown refl) (joined refl refl))))) refl) (joined refl refl)))

  result_ran : Ran p (made_line shared (tag.Variant variant) l) start (steps k 0) (slot_is shared.made (result_of look (wrapped (tag.Variant variant) (triple from w to))) m)
  result_ran = ran_part l ran (write made_ends there)

  -- the last lines of a reduction
  pub result_ends : (returning : Bool) → EndsIn p (Sequence (trees_of (return_line shared returning (made_line shared (tag.Variant variant) l)).parts) (Plain Unset)) start k (answered returning shared.made (result_of look (wrapped (tag.Variant variant) (triple from w to))) m)
  result_ends false =
      let same : steps k 0 ≡ k = omega (arith, steps_are k 0) in
      ends_in (append l.parts _ ran.ends (sequence_one (write made_ends there))) same
  result_ends true =
      let same : steps (steps k 0) 0 ≡ k = omega (arith, steps_are (steps k 0) 0, steps_are k 0) in
      ends_in (append (made_line shared (tag.Variant variant) l).parts _ result_ran.ends (sequence_one (made_given shared (get_same m.store.env shared.made there) refl))) same

-- ---- the lines of a reduction's form
-- the line of the span, and what is made then
abbrev pub span_lines : Making → Shared → AscentSpan → Lines → Lines
span_lines made shared (span.Symbols first last) l = span_popped (ascent_span (span.Symbols first last)) l
span_lines made shared (span.Fixed slot) l = bottom_line made shared (ascent_span (span.Fixed slot)) l
span_lines made shared (span.Optional slot) l = bottom_line made shared (ascent_span (span.Optional slot)) l
span_lines made shared (span.Bottom place) l = bottom_line made shared (ascent_span (span.Bottom place)) l

abbrev pub span_made : Making → AscentSpan → Making
span_made made (span.Symbols first last) = made
span_made made (span.Fixed slot) = with_lookahead_start (ascent_span (span.Fixed slot)) made
span_made made (span.Optional slot) = with_lookahead_start (ascent_span (span.Optional slot)) made
span_made made (span.Bottom place) = with_lookahead_start (ascent_span (span.Bottom place)) made

span_row : (shared : Shared) (made : Making) (place : AscentSpan) (l : Lines) → ascent_line shared (work_of l made) (ascent_span place) ≡ work_of (span_lines made shared place l) (span_made made place)
span_row shared made (span.Symbols first last) l = refl
span_row shared made (span.Fixed slot) l = refl
span_row shared made (span.Optional slot) l = refl
span_row shared made (span.Bottom place) l = refl

call_row : (shared : Shared) (made : Making) (fallible : Bool) (action : ℕ) (generics args : List ℕ) (l : Lines) → ascent_line shared (work_of l made) (call_form fallible action generics args) ≡ work_of (ascent_call_line made (call_form fallible action generics args) l) made
call_row shared made false action generics args l = refl
call_row shared made true action generics args l = refl

take_rows : (shared : Shared) (made : Making) (js : List ℕ) (rest : List Form) (l : Lines) → forms.over (ascent_line shared) (work_of l made) (map take_form js ++ rest) ≡ forms.over (ascent_line shared) (work_of (take_lines js l) made) rest
take_rows shared made [] rest l = refl
take_rows shared made (j ∷ js) rest l = take_rows shared made js rest (take_line (take_form j) l)

last_rows : (shared : Shared) (w : Work) (returning : Bool) → forms.over (ascent_line shared) w (return_forms returning) ≡ w
last_rows shared w false = refl
last_rows shared w true = refl

takes_return : (js : List ℕ) (rest : List Form) → forms.over return_row false (map take_form js ++ rest) ≡ forms.over return_row false rest
takes_return [] rest = refl
takes_return (j ∷ js) rest = takes_return js rest

span_returns : (place : AscentSpan) (rest : List Form) → forms.over return_row false (ascent_span place ∷ rest) ≡ forms.over return_row false rest
span_returns (span.Symbols first last) rest = refl
span_returns (span.Fixed slot) rest = refl
span_returns (span.Optional slot) rest = refl
span_returns (span.Bottom place) rest = refl

call_returns : (fallible returning : Bool) (action : ℕ) (generics args : List ℕ) → forms.over return_row false (call_form fallible action generics args ∷ return_forms returning) ≡ returning
call_returns false false action generics args = refl
call_returns false true action generics args = refl
call_returns true false action generics args = refl
call_returns true true action generics args = refl

-- the lines until the action was called
abbrev pub called_lines : Making → Shared → AscentSpan → Form → List ℕ → Names → Lines
called_lines made shared place call js names = ascent_call_line (span_made made place) call (span_lines made shared place (take_lines js (lines_of names [])))

module _ (shared : Shared) (made : Making) (names : Names) (form : Form) (js : List ℕ) (place : AscentSpan) (fallible : Bool) (action : ℕ) (generics args : List ℕ) (returning : Bool) (parts : parts_of form ≡ map take_form js ++ (ascent_span place ∷ call_form fallible action generics args ∷ return_forms returning)) where
  -- its lines
  pub lines_are : ascent_lines shared made names form ≡ work_of (called_lines made shared place (call_form fallible action generics args) js names) (span_made made place)
  lines_are =
      let rest = call_form fallible action generics args ∷ return_forms returning in
      let taken = take_lines js (lines_of names []) in
      ap (forms.over (ascent_line shared) (work_of (lines_of names []) made)) parts
      ∙ take_rows shared made js (ascent_span place ∷ rest) (lines_of names [])
      ∙ ap (λ w. forms.over (ascent_line shared) w rest) (span_row shared made place taken)
      ∙ ap (λ w. forms.over (ascent_line shared) w (return_forms returning)) (call_row shared (span_made made place) fallible action generics args (span_lines made shared place taken))
      ∙ last_rows shared _ returning

  returns_are : returns form ≡ returning
  returns_are = ap (forms.over return_row false) parts ∙ takes_return js (ascent_span place ∷ call_form fallible action generics args ∷ return_forms returning) ∙ span_returns place (call_form fallible action generics args ∷ return_forms returning) ∙ call_returns fallible returning action generics args

  -- what a reduction's form is read as
  pub reduce_value : (ascent_reduce shared made names form).value ≡ one_after_another (return_line shared returning (made_line shared (variant_tag (hole_of 0 form) (span_made made place)) (called_lines made shared place (call_form fallible action generics args) js names))).parts
  reduce_value =
      ap (λ (w : Work). one_after_another (return_line shared (returns form) (made_line shared (variant_tag (hole_of 0 form) w.made) w.lines)).parts) lines_are
      ∙ ap (λ (b : Bool). one_after_another (return_line shared b (made_line shared (variant_tag (hole_of 0 form) (span_made made place)) (called_lines made shared place (call_form fallible action generics args) js names))).parts) returns_are

-- ---- the whole arm
-- the lookahead is no symbol, nor is it what a reduction's lines bind
lookahead_none : (js : List ℕ) → IsNone js (codes "~lookahead")
lookahead_none [] = tt
lookahead_none (j ∷ js) = (refl, lookahead_none js)

module _ {p : Program} (shared : Shared) (made : Making) (names : Names) (form : Form) (js : List ℕ) (place : AscentSpan) (fallible : Bool) (action : ℕ) (generics args : List ℕ) (returning : Bool) (parts : parts_of form ≡ map take_form js ++ (ascent_span place ∷ call_form fallible action generics args ∷ return_forms returning))
    (variant : ℕ) (tagged : variant_tag (hole_of 0 form) (span_made made place) ≡ tag.Variant variant) {m : Moment} {cells : List Held} (value : ℕ → ℕ → Val) (taken : Let p m m 0 value js cells (lines_of names []) (take_lines js (lines_of names []))) where
  module _ {used : ℕ} (from to : Loc) (placed : Stands p m (over_cells taken.env cells m) taken.count used from to (take_lines js (lines_of names [])) (span_lines made shared place (take_lines js (lines_of names [])))) where
    -- the action has a value: it is the result, with the lookahead
    pub reduce_ends : (j : ℕ) {more : ℕ} (look w old : Val) (later : List UserCall) (valued : Valued p m (over_cells placed.env cells m) (placed.count + j) more w later (span_lines made shared place (take_lines js (lines_of names []))) (called_lines made shared place (call_form fallible action generics args) js names))
        → Shows names m.store.env (codes "~lookahead") look → set_value look ≡ Some look → set_value w ≡ Some w → shared.made < names.next → slice_get m.store.env shared.made ≡ Some old
        → EndsIn p (Eval (ascent_reduce shared made names form).value) m valued.count (answered returning shared.made (result_of look (wrapped (tag.Variant variant) (triple from w to))) (moment (record { env = valued.env; cells = cells; taken = m.store.taken }) later))
    reduce_ends j look w old later valued shows look_set set below there =
        let l3 = called_lines made shared place (call_form fallible action generics args) js names in
        let env = valued.env in
        let up : names.next ≤ (span_lines made shared place (take_lines js (lines_of names []))).names.next = omega (arith, taken.next, placed.next) in
        let look_shown : Shows l3.names env (codes "~lookahead") look = record {
          slot = shows.slot;
          is = valued.known (codes "~lookahead") refl ∙ placed.known (codes "~lookahead") refl refl ∙ taken.known (codes "~lookahead") (lookahead_none js) ∙ shows.is;
          below = omega (arith, shows.below, taken.next, placed.next, valued.next);
          held = valued.keeps.same shows.slot (omega (arith, shows.below, up)) ∙ placed.keeps.same shows.slot (omega (arith, shows.below, taken.next)) ∙ taken.keeps.same shows.slot shows.below ∙ shows.held;
        } in
        let from_shown : Shows l3.names env (codes "~start") (location from) = record {
          slot = placed.from_shown.slot;
          is = valued.known (codes "~start") refl ∙ placed.from_shown.is;
          below = omega (arith, placed.from_shown.below, valued.next);
          held = valued.keeps.same placed.from_shown.slot placed.from_shown.below ∙ placed.from_shown.held;
        } in
        let to_shown : Shows l3.names env (codes "~end") (location to) = record {
          slot = placed.to_shown.slot;
          is = valued.known (codes "~end") refl ∙ placed.to_shown.is;
          below = omega (arith, placed.to_shown.below, valued.next);
          held = valued.keeps.same placed.to_shown.slot placed.to_shown.below ∙ placed.to_shown.held;
        } in
        let made_there : slice_get env shared.made ≡ Some old = valued.keeps.same shared.made (omega (arith, below, up)) ∙ placed.keeps.same shared.made (omega (arith, below, taken.next)) ∙ taken.keeps.same shared.made below ∙ there in
        let ends = result_ends shared l3 variant look w old from to valued.ran look_shown look_set from_shown to_shown valued.shown set made_there returning in
        let o = answered returning shared.made (result_of look (wrapped (tag.Variant variant) (triple from w to))) (moment (record { env = env; cells = cells; taken = m.store.taken }) later) in
        subst (λ (e : Tree). EndsIn p (Eval e) m valued.count o) (sym (reduce_value shared made names form js place fallible action generics args returning parts))
        (subst (λ (t : Tag). EndsIn p (Eval (one_after_another (return_line shared returning (made_line shared t l3)).parts)) m valued.count o) (sym tagged) (block ends))

  -- the action fails: its error is returned
  pub reduce_returns : {k : ℕ} (v : Val) (n : Moment) → EndsIn p (Sequence (trees_of (called_lines made shared place (call_form fallible action generics args) js names).parts) (Plain Unset)) m k (Returning v n) → EndsIn p (Eval (ascent_reduce shared made names form).value) m k (Returning v n)
  reduce_returns {k} v n ends =
      let l3 = called_lines made shared place (call_form fallible action generics args) js names in
      subst (λ (e : Tree). EndsIn p (Eval e) m k (Returning v n)) (sym (reduce_value shared made names form js place fallible action generics args returning parts)) (block (by returning))
    where
      by : (b : Bool) → EndsIn p (Sequence (trees_of (return_line shared b (made_line shared (variant_tag (hole_of 0 form) (span_made made place)) (called_lines made shared place (call_form fallible action generics args) js names))).parts) (Plain Unset)) m k (Returning v n)
      by false = append_left (called_lines made shared place (call_form fallible action generics args) js names).parts _ ends
      by true = append_left _ _ (append_left (called_lines made shared place (call_form fallible action generics args) js names).parts _ ends)
