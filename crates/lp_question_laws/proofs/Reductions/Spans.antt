-- The lines that tell where a reduction stands.
use Rattle.std.proofs.Common.{◌≡◌, ℕ, ◌+◌, ◌≤◌, ℤ, false, List, [], ◌∷◌, ◌++◌, length, Option, Some, None, refl, ap, sym, subst, ◌∙◌, arith, codes, decimal}
use Rattle.std.specs.Prelude.{slice_get, slice_set}
use Rattle.std.specs.Str.{bytes_eq}
use Rattle.std.specs.Option.{option_map}
use Rattle.lp_repr.specs.declared.values.Loc.{Loc}
use Rattle.lp_repr.specs.declared.values.Loc.TheVariants.{Default}
use Rattle.lp_driver.specs.DriverState.{last_of}
use Rattle.lp_driver.specs.RecoveryTurns.{end_or}
use Rattle.lp_driver.specs.Values.{Spanned}
use Rattle.lp_core.specs.declared.value.Tag.TheVariants as tag
use Rattle.lp_core.specs.Datum.{Cell}
use Rattle.lp_core.specs.Reading.{empty, location, option_val, wrapped}
use Rattle.lp_core.specs.Store.{Program, UserCall}
use Rattle.lp_core.specs.Tree.{Tree}
use Rattle.lp_core.specs.Val.{Val, Plain}
use Rattle.lp_form.specs.declared.part.Part.TheVariants as part
use Rattle.lp_tree.specs.ProgramTree.{leaf}
use Rattle.lp_view.specs.PartLists.{Form}
use Rattle.lp_maker.specs.Slots.{Names, after_slots, bound}
use Rattle.lp_maker.specs.Making.{Making, read_name}
use Rattle.lp_maker.specs.Constructs as maker
use Rattle.lp_bodies.specs.Lines.{Lines, lines_of}
use Rattle.lp_bodies.specs.Reductions.{Work, symbol_side, popped_start, span_popped, span_empty, empty_place, last_end_number, part_function, last_end_function}
use Rattle.lp_bodies.specs.Source.{default_location}
use Rattle.lp_machine.specs.ReductionSpan as machine
use Rattle.lp_code_laws.specs.Ends.Ends.{Moment, steps, Eval, Giving, EndsIn}
use Rattle.lp_code_laws.proofs.Ends.Rules.{plain, apply_found, argument, call}
use Rattle.lp_code_laws.proofs.Ends.Calls.{arguments_done}
use Rattle.lp_code_laws.proofs.Ends.Lists.{get_same, length_set, set_twice}
use Rattle.lp_code_laws.proofs.Ends.Steps.{ends_as, steps_are}
use Rattle.lp_code_laws.proofs.Ends.Tags.{on_none, on_some}
use Rattle.lp_code_laws.proofs.Ends.Values.{read}
use Rattle.lp_code_laws.specs.Slots.Shows.{Shows, HasRoom}
use Rattle.lp_code_laws.proofs.Slots.Names.{kept, let_other, let_this, shows_this}
use Rattle.lp_code_laws.proofs.Slots.Slots.{keeps_set, next_slot}
use Rattle.lp_code_laws.proofs.Printed.Lines.{read_shown}
use Rattle.lp_question_laws.specs.Tables.Acts.{symbol_val}
use Rattle.lp_question_laws.specs.Reductions.Outer.{sym_name, Lasts}
use Rattle.lp_question_laws.specs.Reductions.Stacks.{over_two, Symbol}
use Rattle.lp_question_laws.specs.Reductions.Lined.{Lined}
use Rattle.lp_question_laws.proofs.Reductions.Lasting.{lasts_set, lasts_after, inner_start, inner_end}
use Rattle.lp_question_laws.proofs.Reductions.Popping.{AreShown, Popped}
use Rattle.lp_question_laws.proofs.Reductions.Letting.{room_left, not_before, let_lined, after_lined}
use Rattle.lp_question_laws.proofs.Reductions.Ending.{end_val, Told, end_told}

-- the lines have told a place, and each symbol is still shown
pub record Placed (p : Program) (old : Names) (before : List Val) (start : Moment) (taken : ℕ) (ss : List ℤ) (l : List (Spanned Val)) (calls : List UserCall) (most used : ℕ) (xs : List Symbol) (at : Loc × Loc) (lines : Lines) : Type 0 where
  pub now : List Val
  pub lined : Lined p old before start taken ss l calls most used now lines
  pub from : Shows lines.names now (codes "~start") (location at.0)
  pub to : Shows lines.names now (codes "~end") (location at.1)
  pub shown : AreShown 0 xs lines.names now

pub popped_lined : {p : Program} {made : Making} {taken : ℕ} {calls : List UserCall} {ss : List ℤ} {old : Names} {before : List Val} {start : Moment} {many k : ℕ} {xs : List Symbol} {l : List (Spanned Val)} {w : Work}
    (h : Popped p made taken calls ss old before start many k xs l w) → Lined p old before start taken ss l calls (many + length xs) (length xs) h.now w.lines
popped_lined h = record { count = h.count; ran = h.ran; few = omega (arith, h.counted); next = h.next; size = h.size; lasts = h.lasts }

abbrev pub span_form : ℕ → Form
span_form last = leaf part.SpanPopped (decimal 0 ∷ decimal last ∷ [])

-- symbols are shown after another name was bound
still_shown : (name : List ℕ) (w : Val) (xs : List Symbol) (names : Names) (env : List Val) → ((i : ℕ) → bytes_eq name (sym_name i) ≡ false) → AreShown 0 xs names env → AreShown 0 xs (bound name names) (slice_set env names.next w)
still_shown name w xs names env other shown i x is = let_other name w (other (0 + i)) (shown i x is)

module _ {p : Program} {old : Names} {before : List Val} {start : Moment} {taken : ℕ} {ss : List ℤ} {l : List (Spanned Val)} {calls : List UserCall} {most used : ℕ} {now : List Val} {lines : Lines} (h : Lined p old before start taken ss l calls most used now lines) (xs : List Symbol) (shown : AreShown 0 xs lines.names now) where
  -- from the first symbol to the last
  pub popped_placed : (a b : Symbol) (last : ℕ) → slice_get xs 0 ≡ Some a → slice_get xs last ≡ Some b → old.next + (used + 2) ≤ length before
      → Placed p old before start taken ss l calls most (used + 2) xs (a.item.0, b.item.2) (span_popped (span_form last) lines)
  popped_placed a b last first at fits =
      let first_line = popped_start (span_form last) lines in
      let seen : Shows lines.names now (sym_name 0) (symbol_val a.item) = shown 0 a first in
      let start_ends : EndsIn p (Eval (symbol_side 0 (decimal 0) lines.names)) (over_two now taken calls ss l) 0 (Giving (location a.item.0) (over_two now taken calls ss l)) = apply_found _ (read_shown seen refl) refl refl in
      let one = let_lined h (codes "~start") (symbol_side 0 (decimal 0) lines.names) (location a.item.0) now calls 0 start_ends refl h.lasts inner_start (omega arith) in
      let env = slice_set now lines.names.next (location a.item.0) in
      let kept = still_shown (codes "~start") (location a.item.0) xs lines.names now (λ i. refl) shown in
      let start_shown : Shows first_line.names env (codes "~start") (location a.item.0) = let_this (codes "~start") lines.names now (location a.item.0) (room_left h 1 (omega arith)) in
      let same : 0 + last ≡ last = omega arith in
      let seen_last : Shows first_line.names env (sym_name last) (symbol_val b.item) = subst (λ (j : ℕ). Shows first_line.names env (sym_name j) (symbol_val b.item)) same (kept last b at) in
      let end_ends : EndsIn p (Eval (symbol_side 2 (decimal last) first_line.names)) (over_two env taken calls ss l) 0 (Giving (location b.item.2) (over_two env taken calls ss l)) = apply_found _ (read_shown seen_last refl) refl refl in
      let two = let_lined one (codes "~end") (symbol_side 2 (decimal last) first_line.names) (location b.item.2) env calls 0 end_ends refl one.lasts inner_end (omega arith) in
      record {
        now = slice_set env first_line.names.next (location b.item.2);
        lined = record { count = two.count; ran = two.ran; few = omega (arith, two.few); next = omega (arith, two.next); size = two.size; lasts = two.lasts };
        from = let_other (codes "~end") (location b.item.2) refl start_shown;
        to = let_this (codes "~end") first_line.names env (location b.item.2) (room_left one 1 (omega arith));
        shown = still_shown (codes "~end") (location b.item.2) xs first_line.names env (λ i. refl) kept;
      }

-- ---- no symbol

-- what is told of a lookahead
abbrev pub start_val : Option Loc → Val
start_val o = option_val (option_map location o)

module _ (p : Program) (made : Making) (taken : ℕ) (calls : List UserCall) (ss : List ℤ) (l : List (Spanned Val)) (names : Names) (env : List Val) where
  abbrev here : Moment
  here = over_two env taken calls ss l

  -- the place is the lookahead's start, else the end of the last symbol, else the default; a slot was used for it
  pub record Found (number slot : ℕ) (o : Option Loc) : Type 0 where
    pub many : ℕ
    pub few : many ≤ 2
    pub held : Val
    pub ends : EndsIn p (Eval (empty_place number slot names)) here many (Giving (location (machine.empty_place o l)) (over_two (slice_set env slot held) taken calls ss l))

  module _ (number slot part : ℕ) (there : slice_get p.functions number ≡ Some (last_end_function part)) (inner : slice_get p.functions part ≡ Some (part_function 2)) (symbols : Shows names env (codes "~symbols") (Plain (Cell 1))) (above : names.next ≤ slot) (old : Val) (has_slot : slice_get env slot ≡ Some old) where
    abbrev without : List Val
    without = slice_set env slot (empty tag.Absent)

    abbrev behind_last : Tree
    behind_last = maker.on_option (maker.call_function number (read_name names (codes "~symbols") ∷ [])) slot default_location (maker.read slot)

    pub place_found : (o : Option Loc) → Shows names env (codes "~lookahead_start") (start_val o) → Found number slot o
    place_found (Some loc) shows = record { many = 0; few = omega arith; held = location loc; ends = on_some (read_shown shows refl) has_slot (read (get_same env slot has_slot) refl) }
    place_found None shows = by (last_of l) refl
      where
        told : Told p number part without taken calls ss l there inner (last_of l)
        told = end_told p number part without taken calls ss l there inner

        called : EndsIn p (Eval (maker.call_function number (read_name names (codes "~symbols") ∷ []))) (over_two without taken calls ss l) told.many (Giving (option_val (end_val (last_of l))) (over_two without taken calls ss l))
        called = call (argument (read_shown (kept symbols (keeps_set names.next slot env (empty tag.Absent) above)) refl) (arguments_done told.ends))

        still : slice_get without slot ≡ Some (empty tag.Absent)
        still = get_same env slot has_slot

        by : (o : Option (Spanned Val)) → last_of l ≡ o → Found number slot None
        by None is =
            let ended : EndsIn p (Eval (maker.call_function number (read_name names (codes "~symbols") ∷ []))) (over_two without taken calls ss l) told.many (Giving (empty tag.Absent) (over_two without taken calls ss l)) = subst (λ (x : Option (Spanned Val)). EndsIn p (Eval (maker.call_function number (read_name names (codes "~symbols") ∷ []))) (over_two without taken calls ss l) told.many (Giving (option_val (end_val x)) (over_two without taken calls ss l))) is called in
            let whole : EndsIn p (Eval behind_last) (over_two without taken calls ss l) (steps told.many 0) (Giving (location Default) (over_two (slice_set without slot (empty tag.Absent)) taken calls ss l)) = on_none ended still (plain refl) in
            record {
              many = steps told.many 0;
              few = omega (arith, steps_are told.many 0, told.few);
              held = empty tag.Absent;
              ends = on_none (read_shown shows refl) has_slot (ends_as whole (ap (λ (x : List Val). Giving (location Default) (over_two x taken calls ss l)) (set_twice env slot (empty tag.Absent) (empty tag.Absent)) ∙ ap (λ (x : Option (Spanned Val)). Giving (location (end_or x Default)) (over_two without taken calls ss l)) (sym is)));
            }
        by (Some x) is =
            let ended : EndsIn p (Eval (maker.call_function number (read_name names (codes "~symbols") ∷ []))) (over_two without taken calls ss l) told.many (Giving (wrapped tag.Present (location x.2)) (over_two without taken calls ss l)) = subst (λ (x : Option (Spanned Val)). EndsIn p (Eval (maker.call_function number (read_name names (codes "~symbols") ∷ []))) (over_two without taken calls ss l) told.many (Giving (option_val (end_val x)) (over_two without taken calls ss l))) is called in
            let whole : EndsIn p (Eval behind_last) (over_two without taken calls ss l) (steps told.many 0) (Giving (location x.2) (over_two (slice_set without slot (location x.2)) taken calls ss l)) = on_some ended still (read (get_same without slot still) refl) in
            record {
              many = steps told.many 0;
              few = omega (arith, steps_are told.many 0, told.few);
              held = location x.2;
              ends = on_none (read_shown shows refl) has_slot (ends_as whole (ap (λ (e : List Val). Giving (location x.2) (over_two e taken calls ss l)) (set_twice env slot (empty tag.Absent) (location x.2)) ∙ ap (λ (y : Option (Spanned Val)). Giving (location (end_or y Default)) (over_two (slice_set env slot (location x.2)) taken calls ss l)) (sym is)));
            }

module _ {p : Program} {old : Names} {before : List Val} {start : Moment} {taken : ℕ} {ss : List ℤ} {l : List (Spanned Val)} {calls : List UserCall} {most used : ℕ} {now : List Val} {lines : Lines} (h : Lined p old before start taken ss l calls most used now lines) (made : Making) where
  -- without symbols at one place
  pub empty_placed : (part : ℕ) → slice_get p.functions (last_end_number made) ≡ Some (last_end_function part) → slice_get p.functions part ≡ Some (part_function 2) → Shows lines.names now (codes "~symbols") (Plain (Cell 1)) → (o : Option Loc) → Shows lines.names now (codes "~lookahead_start") (start_val o)
      → old.next + (used + 3) ≤ length before → Placed p old before start taken ss l calls (most + 2) (used + 3) [] (machine.empty_place o l, machine.empty_place o l) (span_empty made lines)
  empty_placed part there inner symbols o lookahead fits =
      let at = machine.empty_place o l in
      let slot = lines.names.next in
      let has = next_slot (room_left h 1 (omega arith)) in
      let f : Found p made taken calls ss l lines.names now (last_end_number made) slot o = place_found p made taken calls ss l lines.names now (last_end_number made) slot part there inner symbols (omega arith) has.0 has.1 o lookahead in
      let first = lines_of (after_slots 1 lines.names) lines.parts in
      let zero_line = after_lined h 1 in
      let env0 = slice_set now slot f.held in
      let lasts0 : Lasts old before first.names env0 = lasts_after (lasts_set h.lasts (not_before h) slot f.held (omega arith)) (not_before h) 1 in
      let one = let_lined zero_line (codes "~start") (empty_place (last_end_number made) slot lines.names) (location at) env0 calls f.many f.ends (length_set now slot f.held) lasts0 inner_start (omega arith) in
      let env1 = slice_set env0 first.names.next (location at) in
      let second = lines_of (bound (codes "~start") first.names) (lines.parts ++ maker.write first.names.next (empty_place (last_end_number made) slot lines.names) ∷ []) in
      let room1 : HasRoom 1 first.names env0 = record { room = omega (arith, fits, h.next, h.size, length_set now slot f.held) } in
      let here1 : slice_get env1 first.names.next ≡ Some (location at) = get_same env0 first.names.next (next_slot room1).1 in
      let two = let_lined one (codes "~end") (maker.read first.names.next) (location at) env1 calls 0 (read here1 refl) refl one.lasts inner_end (omega arith) in
      let start_shown : Shows second.names env1 (codes "~start") (location at) = shows_this (codes "~start") first.names env1 (location at) here1 in
      record {
        now = slice_set env1 second.names.next (location at);
        lined = record { count = two.count; ran = two.ran; few = omega (arith, two.few, f.few); next = omega (arith, two.next); size = two.size; lasts = two.lasts };
        from = let_other (codes "~end") (location at) refl start_shown;
        to = let_this (codes "~end") second.names env1 (location at) (room_left one 1 (omega arith));
        shown = λ i x is. absurd cc;
      }
