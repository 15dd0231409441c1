-- Where a reduced symbol stands: from the first popped symbol to the last, or at the lookahead, else behind the top slot.
use Rattle.std.proofs.Common.{◌≡◌, ℕ, ◌+◌, ◌≤◌, false, List, [], ◌∷◌, length, codes, decimal, Some, refl, ◌∙◌, arith}
use Rattle.std.specs.Prelude.{slice_get, slice_set}
use Rattle.std.specs.Str.{bytes_eq}
use Rattle.lp_repr.specs.declared.values.Loc.{Loc}
use Rattle.lp_repr.specs.declared.values.Loc.TheVariants.{Default}
use Rattle.lp_core.specs.declared.value.Tag.TheVariants as tag
use Rattle.lp_core.specs.Datum.{Cell, Unset}
use Rattle.lp_core.specs.Val.{Val, Plain}
use Rattle.lp_core.specs.Reading.{empty, wrapped, triple, location}
use Rattle.lp_core.specs.Store.{Program, Slot}
use Rattle.lp_core.specs.Tree.{Tree}
use Rattle.lp_form.specs.declared.part.Part.TheVariants as part
use Rattle.lp_tree.specs.ProgramTree.{leaf}
use Rattle.lp_view.specs.PartLists.{Form}
use Rattle.lp_maker.specs.Slots.{Names, after_slots, slot_of}
use Rattle.lp_maker.specs.Making.{Making}
use Rattle.lp_bodies.specs.Lines.{Lines, lines_of, with_let}
use Rattle.lp_bodies.specs.Reductions.{popped_start, span_popped, span_at, part_function}
use Rattle.lp_ascent_bodies.specs.declared.ascent.Lines.{Lines as Shared}
use Rattle.lp_ascent_bodies.specs.AscentReductions.{inner_function, with_start, bottom, lookahead_start}
use Rattle.lp_code_laws.specs.Ends.Ends.{Moment, steps, Eval, Giving, EndsIn}
use Rattle.lp_code_laws.proofs.Ends.Rules.{plain, apply_to, apply_found, argument, call}
use Rattle.lp_code_laws.proofs.Ends.Calls.{enter, arguments_done}
use Rattle.lp_code_laws.proofs.Ends.Cells.{read_in_cell}
use Rattle.lp_code_laws.proofs.Ends.Lists.{get_same, length_set}
use Rattle.lp_code_laws.proofs.Ends.Steps.{steps_are}
use Rattle.lp_code_laws.proofs.Ends.Tags.{slot_is, on_none, on_some, take_it}
use Rattle.lp_code_laws.proofs.Ends.Values.{read}
use Rattle.lp_code_laws.specs.Slots.Shows.{Shows, HasRoom, Keeps}
use Rattle.lp_code_laws.proofs.Slots.Names.{let_other, let_this, named_other}
use Rattle.lp_code_laws.proofs.Slots.Slots.{keeps_both, keeps_set, next_slot}
use Rattle.lp_code_laws.specs.Printed.Ran.{Ran}
use Rattle.lp_code_laws.proofs.Printed.Lines.{read_shown, ran_let}
use Rattle.lp_question_laws.specs.Reductions.Outer.{sym_name}
use Rattle.lp_back_end_laws.proofs.Call.Cells.{over_cells}

-- lines have let the start and the end be these places, in at most one step; other names show what they showed, in the same slots
pub record Stands (p : Program) (start m : Moment) (k used : ℕ) (from to : Loc) (l after : Lines) : Type 0 where
  pub env : List Val
  pub count : ℕ
  pub ran : Ran p after start count (over_cells env m.store.cells m)
  pub few : count ≤ k + 1
  pub next : after.names.next ≡ l.names.next + used
  pub keeps : Keeps l.names.next m.store.env env
  pub from_shown : Shows after.names env (codes "~start") (location from)
  pub to_shown : Shows after.names env (codes "~end") (location to)
  pub known : (q : List ℕ) → bytes_eq (codes "~start") q ≡ false → bytes_eq (codes "~end") q ≡ false → slot_of q after.names ≡ slot_of q l.names

module _ {p : Program} where
  -- `let ~start = ~symi.0.clone(); let ~end = ~symj.2.clone();`
  pub popped_stands : (i j : ℕ) (l : Lines) {start m : Moment} {k : ℕ} (a b c d : Loc) (v w : Val) → Ran p l start k m → HasRoom 2 l.names m.store.env → Shows l.names m.store.env (sym_name i) (triple a v b) → Shows l.names m.store.env (sym_name j) (triple c w d)
      → Stands p start m k 2 a d l (span_popped (leaf part.AscentPopped (decimal i ∷ decimal j ∷ [])) l)
  popped_stands i j l {start} {m} {k} a b c d v w ran room first last =
      let line = leaf part.AscentPopped (decimal i ∷ decimal j ∷ []) in
      let l1 = popped_start line l in
      let e1 = slice_set m.store.env l.names.next (location a) in
      let ran1 : Ran p l1 start (steps k 0) (over_cells e1 m.store.cells m) = ran_let l (codes "~start") 1 ran (apply_found _ (read_shown first refl) refl refl) room in
      let one : HasRoom 1 l1.names e1 = record { room = omega (arith, room.room, length_set m.store.env l.names.next (location a)) } in
      let shown : Shows l1.names e1 (sym_name j) (triple c w d) = let_other (codes "~start") (location a) refl last in
      record {
        env = slice_set e1 l1.names.next (location d);
        count = steps (steps k 0) 0;
        ran = ran_let l1 (codes "~end") 0 ran1 (apply_found _ (read_shown shown refl) refl refl) one;
        few = omega (arith, steps_are (steps k 0) 0, steps_are k 0);
        next = omega arith;
        keeps = keeps_both (keeps_set l.names.next l.names.next m.store.env (location a) (omega arith)) (keeps_set l.names.next l1.names.next e1 (location d) (omega arith));
        from_shown = let_other (codes "~end") (location d) refl (let_this (codes "~start") l.names m.store.env (location a) (record { room = omega (arith, room.room) }));
        to_shown = let_this (codes "~end") l1.names e1 (location d) one;
        known = λ q a b. named_other q (codes "~end") l1.names.next (after_slots 1 l1.names) b ∙ named_other q (codes "~start") l.names.next (after_slots 1 l.names) a;
      }

  -- both are one place
  pub at_stands : (value : Tree) (l : Lines) {start m : Moment} {k j : ℕ} (from : Loc) (w : Val) → j ≤ 1 → Ran p l start k m → HasRoom 3 l.names m.store.env → EndsIn p (Eval value) m j (Giving (location from) (slot_is l.names.next w m))
      → Stands p start m k 3 from from l (span_at value (lines_of (after_slots 1 l.names) l.parts))
  at_stands value l {m = m} {k = k} {j = j} from w small ran room ends =
      let l0 = lines_of (after_slots 1 l.names) l.parts in
      let e0 = slice_set m.store.env l.names.next w in
      let l1 = with_let (codes "~start") value l0 in
      let e1 = slice_set e0 l0.names.next (location from) in
      let room0 : HasRoom 2 l0.names e0 = record { room = omega (arith, room.room, length_set m.store.env l.names.next w) } in
      let start0 : HasRoom 1 l0.names e0 = record { room = omega (arith, room0.room) } in
      let room1 : HasRoom 1 l1.names e1 = record { room = omega (arith, room0.room, length_set e0 l0.names.next (location from)) } in
      let there : slice_get e1 l0.names.next ≡ Some (location from) = get_same e0 l0.names.next (next_slot start0).1 in
      let ran1 = ran_let l0 (codes "~start") 1 (record { value = ran.value; ends = ran.ends }) ends room0 in
      record {
        env = slice_set e1 l1.names.next (location from);
        count = steps (steps k j) 0;
        ran = ran_let l1 (codes "~end") 0 ran1 (read there refl) room1;
        few = omega (arith, steps_are (steps k j) 0, steps_are k j, small);
        next = omega arith;
        keeps = keeps_both (keeps_both (keeps_set l.names.next l.names.next m.store.env w (omega arith)) (keeps_set l.names.next l0.names.next e0 (location from) (omega arith))) (keeps_set l.names.next l1.names.next e1 (location from) (omega arith));
        from_shown = let_other (codes "~end") (location from) refl (let_this (codes "~start") l0.names e0 (location from) start0);
        to_shown = let_this (codes "~end") l1.names e1 (location from) room1;
        known = λ q a b. named_other q (codes "~end") l1.names.next (after_slots 1 l1.names) b ∙ named_other q (codes "~start") l0.names.next (after_slots 1 l0.names) a;
      }

  -- ---- the place of none
  module _ (made : Making) (shared : Shared) (line : Form) (names : Names) (m : Moment) (room : HasRoom 1 names m.store.env) where
    -- the lookahead's start
    pub start_of_token : (a b : Loc) (v : Val) → slice_get p.functions (length made.functions) ≡ Some (part_function 0) → slice_get m.store.env shared.lookahead ≡ Some (wrapped tag.Present (triple a v b)) → EndsIn p (Eval (lookahead_start made shared line names)) m 1 (Giving (location a) (slot_is names.next (Plain Unset) m))
    start_of_token a b v first there =
        on_some (read there refl) (next_slot room).1 (call (argument (take_it names.next (triple a v b) m (next_slot room).1 refl) (arguments_done (enter first refl (apply_found _ (read refl refl) refl refl) refl))))

    -- there is none: what stands below
    pub start_below : {j : ℕ} (from : Loc) → slice_get m.store.env shared.lookahead ≡ Some (empty tag.Absent) → EndsIn p (Eval (bottom (with_start made) line (after_slots 1 names))) (slot_is names.next (empty tag.Absent) m) j (Giving (location from) (slot_is names.next (empty tag.Absent) m)) → EndsIn p (Eval (lookahead_start made shared line names)) m j (Giving (location from) (slot_is names.next (empty tag.Absent) m))
    start_below from there h = on_none (read there refl) (next_slot room).1 h

  module _ (made : Making) (names : Names) (m : Moment) where
    -- the end of the top slot, by value or in a cell, or the default
    pub end_of_fixed : (j : ℕ) (a b : Loc) (v : Val) → slice_get p.functions (length made.functions) ≡ Some (part_function 2) → Shows names m.store.env (sym_name j) (triple a v b) → EndsIn p (Eval (bottom made (leaf part.AscentFixed (decimal j ∷ [])) names)) m 1 (Giving (location b) m)
    end_of_fixed j a b v function shows = call (argument (read_shown shows refl) (arguments_done (enter function refl (apply_found _ (read refl refl) refl refl) refl)))

    pub end_of_cell : (j c : ℕ) (a b : Loc) (v : Val) → slice_get p.functions (length made.functions) ≡ Some inner_function → Shows names m.store.env (sym_name j) (Plain (Cell c)) → slice_get m.store.cells c ≡ Some (Slot (Some (triple a v b))) → EndsIn p (Eval (bottom made (leaf part.AscentOptional (decimal j ∷ [])) names)) m 1 (Giving (location b) m)
    end_of_cell j c a b v function shows there = call (argument (read_shown shows refl) (arguments_done (enter function refl (apply_found _ (apply_to (read refl refl) (read_in_cell p c _ (triple a v b) there)) refl refl) refl)))

    pub end_of_none : (text : List ℕ) → EndsIn p (Eval (bottom made (leaf part.AscentBottom (text ∷ [])) names)) m 0 (Giving (location Default) m)
    end_of_none text = plain refl
