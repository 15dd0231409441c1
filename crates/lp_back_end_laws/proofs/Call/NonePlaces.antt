-- The place of a reduction without symbols: at the lookahead, else where the frame's top symbol ends, else the default.
use Rattle.std.proofs.Common.{◌≡◌, ℕ, ◌+◌, ◌-◌, ◌<◌, ◌≤◌, Bool, true, false, List, [], ◌∷◌, length, decimal, Option, Some, None, refl, sym, ap, ◌∙◌, subst, arith, lt-ltb}
use Rattle.std.specs.Prelude.{slice_get, ◌==◌, if◌then◌else◌}
use Rattle.std.specs.Option.{option_map}
use Rattle.std.proofs.lemmas.Bool.Decides.{nat_tests}
use Rattle.lp_repr.specs.declared.values.Loc.{Loc}
use Rattle.lp_repr.specs.declared.values.Loc.TheVariants.{Default}
use Rattle.lp_repr.specs.declared.repr.Grammar.{Grammar}
use Rattle.lp_driver.specs.DriverState.{last_of}
use Rattle.lp_driver.specs.RecoveryTurns.{end_or}
use Rattle.lp_driver.specs.Values.{Token, Spanned, Value}
use Rattle.lp_machine.specs.ReductionSpan.{popped, empty_place}
use Rattle.lp_core.specs.declared.expr.Function.{Function}
use Rattle.lp_core.specs.declared.value.Tag.TheVariants as tag
use Rattle.lp_core.specs.Datum.{Cell, Unset, Parsed}
use Rattle.lp_core.specs.Reading.{empty, location}
use Rattle.lp_core.specs.Store.{Program, Slot}
use Rattle.lp_core.specs.Val.{Val, Plain}
use Rattle.lp_turns.specs.DriverCall.{token_val}
use Rattle.lp_question_laws.specs.Tables.Acts.{symbol_val}
use Rattle.lp_parts.specs.Texts.{location_text}
use Rattle.lp_form.specs.declared.part.Part.TheVariants as part
use Rattle.lp_tree.specs.ProgramTree.{leaf}
use Rattle.lp_view.specs.PartLists.{Form}
use Rattle.lp_build.specs.declared.ascent_reduce.AscentSpan.{AscentSpan}
use Rattle.lp_build.specs.declared.ascent_reduce.AscentSpan.TheVariants as span
use Rattle.lp_build.specs.Ascent.{ascent_span}
use Rattle.lp_maker.specs.Slots.{Names, after_slots}
use Rattle.lp_maker.specs.Making.{Making}
use Rattle.lp_bodies.specs.Lines.{lines_of}
use Rattle.lp_bodies.specs.Reductions.{part_function}
use Rattle.lp_ascent_bodies.specs.declared.ascent.Lines.{Lines as Shared}
use Rattle.lp_ascent_bodies.specs.AscentReductions.{inner_function, with_start, bottom, lookahead_start, bottom_line}
use Rattle.lp_ascent.specs.ReduceLines.{popped_span}
use Rattle.lp_ascent.specs.Slots.{Layout, count_of, is_cell}
use Rattle.lp_code_laws.specs.Ends.Ends.{Moment, Eval, Giving, EndsIn}
use Rattle.lp_code_laws.proofs.Ends.Lists.{get_first}
use Rattle.lp_code_laws.proofs.Ends.Tags.{slot_is}
use Rattle.lp_code_laws.specs.Slots.Shows.{Shows, HasRoom}
use Rattle.lp_code_laws.proofs.Slots.Names.{kept, shows_after}
use Rattle.lp_code_laws.proofs.Slots.Slots.{get_within, get_behind, keeps_set}
use Rattle.lp_code_laws.proofs.Printed.Lines.{no_lines}
use Rattle.lp_question_laws.specs.Reductions.Outer.{sym_name}
use Rattle.lp_back_end_laws.specs.Call.Frames.{AreSlots}
use Rattle.lp_back_end_laws.specs.Call.Standing.{look_val}
use Rattle.lp_back_end_laws.proofs.Call.FrameSlots.{slot_symbol, slot_value, slot_number, content}
use Rattle.lp_back_end_laws.proofs.Call.Lookups.{get_dropped}
use Rattle.lp_back_end_laws.proofs.Call.Places.{Stands, at_stands, start_of_token, start_below, end_of_fixed, end_of_cell, end_of_none}
use Rattle.lp_back_end_laws.proofs.Call.ReduceArms.{span_lines, span_made}

-- where it is
abbrev pub place_seen : Option (Spanned Token) → List (Spanned Value) → Loc
place_seen look triples = empty_place (option_map (λ x. x.0) look) triples

-- the functions that were made are the program's
abbrev pub AreThere : Program → List (Option Function) → Type 0
AreThere p made = (i : ℕ) (f : Function) → slice_get made i ≡ Some (Some f) → slice_get p.functions i ≡ Some f

module _ (p : Program) (made : Making) (shared : Shared) (names : Names) (m : Moment) (room : HasRoom 3 names m.store.env) (look : Option (Spanned Token)) (there : slice_get m.store.env shared.lookahead ≡ Some (look_val look)) (triples : List (Spanned Value)) where
  one : HasRoom 1 names m.store.env
  one = record { room = omega (arith, room.room) }

  abbrev below : Moment
  below = slot_is names.next (empty tag.Absent) m

  -- what the line says
  record Located (line : Form) : Type 0 where
    slot : Val
    count : ℕ
    few : count ≤ 1
    ends : EndsIn p (Eval (lookahead_start made shared line names)) m count (Giving (location (place_seen look triples)) (slot_is names.next slot m))

  -- by the lookahead, or by what is below
  located : (line : Form) (j : ℕ) → j ≤ 1 → slice_get p.functions (length made.functions) ≡ Some (part_function 0)
      → EndsIn p (Eval (bottom (with_start made) line (after_slots 1 names))) below j (Giving (location (end_or (last_of triples) Default)) below) → Located line
  located line j few start ends = (let r = by look there in record { slot = r.0; count = r.1; few = r.2; ends = r.3 })
    where
      by : (o : Option (Spanned Token)) → slice_get m.store.env shared.lookahead ≡ Some (look_val o) → (slot : Val) × (count : ℕ) × (count ≤ 1) × EndsIn p (Eval (lookahead_start made shared line names)) m count (Giving (location (place_seen o triples)) (slot_is names.next slot m))
      by None at = (empty tag.Absent, j, few, start_below made shared line names m one (end_or (last_of triples) Default) at ends)
      by (Some x) at = (Plain Unset, 1, omega arith, start_of_token made shared line names m one x.0 x.2 (token_val x.1) start at)

  -- the start and the end are that place
  stands_by : (line : Form) → Located line → Stands p m m 0 3 (place_seen look triples) (place_seen look triples) (lines_of names []) (bottom_line made shared line (lines_of names []))
  stands_by line r = at_stands (lookahead_start made shared line names) (lines_of names []) (place_seen look triples) r.slot r.few (no_lines names m) room r.ends

  module _ (l : Layout) (own : List Val) (are : AreSlots l (is_cell l) 0 triples m.store.cells own) (shown : (j : ℕ) (v : Val) → slice_get own j ≡ Some v → Shows names m.store.env (sym_name j) v) (none : count_of l ≡ 0 → triples ≡ []) where
    still : (j : ℕ) (v : Val) → Shows names m.store.env (sym_name j) v → Shows (after_slots 1 names) below.store.env (sym_name j) v
    still j v h = shows_after 1 (kept h (keeps_set names.next names.next m.store.env (empty tag.Absent) (omega arith)))

    -- the top symbol
    top_symbol : (count_of l == 0) ≡ false → (x : Spanned Value) × (slice_get (popped (count_of l) triples) (count_of l - 1) ≡ Some x) × (end_or (last_of triples) Default ≡ x.2)
    top_symbol some =
        let more : 0 < count_of l = grind (arith, nat_tests) in
        let s = slot_symbol are (count_of l - 1) (omega (arith, more)) in
        let last : last_of triples ≡ Some s.0 = sym (get_dropped triples (length triples - count_of l) (count_of l - 1) (length triples - 1) (omega (arith, more, are.fits))) ∙ s.1 in
        (s.0, s.1, ap (λ o. end_or o Default) last)

    -- in a slot by value
    fixed_ends : (count_of l == 0) ≡ false → is_cell l (count_of l - 1) ≡ false → slice_get p.functions (length (with_start made).functions) ≡ Some (part_function 2)
        → EndsIn p (Eval (bottom (with_start made) (leaf part.AscentFixed (decimal (count_of l - 1) ∷ [])) (after_slots 1 names))) below 1 (Giving (location (end_or (last_of triples) Default)) below)
    fixed_ends some is function =
        let x = top_symbol some in
        let more : 0 < count_of l = grind (arith, nat_tests) in
        let v = get_within own (count_of l - 1) (omega (arith, more, are.count)) in
        let e = (slot_value (are.each (count_of l - 1) x.0 v.0 x.1 v.1) is).1 in
        subst (λ (at : Loc). EndsIn p (Eval (bottom (with_start made) (leaf part.AscentFixed (decimal (count_of l - 1) ∷ [])) (after_slots 1 names))) below 1 (Giving (location at) below)) (sym x.2)
        (end_of_fixed (with_start made) (after_slots 1 names) below (count_of l - 1) (x.0).0 (x.0).2 (Plain (Parsed (x.0).1)) function (still (count_of l - 1) (symbol_val x.0) (subst (λ (o : Val). Shows names m.store.env (sym_name (count_of l - 1)) o) e (shown (count_of l - 1) v.0 v.1))))

    -- in a cell
    cell_ends : (count_of l == 0) ≡ false → is_cell l (count_of l - 1) ≡ true → slice_get p.functions (length (with_start made).functions) ≡ Some inner_function
        → EndsIn p (Eval (bottom (with_start made) (leaf part.AscentOptional (decimal (count_of l - 1) ∷ [])) (after_slots 1 names))) below 1 (Giving (location (end_or (last_of triples) Default)) below)
    cell_ends some is function =
        let x = top_symbol some in
        let more : 0 < count_of l = grind (arith, nat_tests) in
        let v = get_within own (count_of l - 1) (omega (arith, more, are.count)) in
        let c = slot_number (are.each (count_of l - 1) x.0 v.0 x.1 v.1) is in
        let held : slice_get m.store.cells c.0 ≡ Some (Slot (Some (symbol_val x.0))) = c.2 ∙ ap (λ (b : Bool). Some (content b x.0)) (lt-ltb (count_of l - 1 + 0) (count_of l) (omega (arith, more))) in
        subst (λ (at : Loc). EndsIn p (Eval (bottom (with_start made) (leaf part.AscentOptional (decimal (count_of l - 1) ∷ [])) (after_slots 1 names))) below 1 (Giving (location at) below)) (sym x.2)
        (end_of_cell (with_start made) (after_slots 1 names) below (count_of l - 1) c.0 (x.0).0 (x.0).2 (Plain (Parsed (x.0).1)) function
        (still (count_of l - 1) (Plain (Cell c.0)) (subst (λ (o : Val). Shows names m.store.env (sym_name (count_of l - 1)) o) c.1 (shown (count_of l - 1) v.0 v.1))) held)

    -- there is no slot
    none_ends : (count_of l == 0) ≡ true → (text : List ℕ) → EndsIn p (Eval (bottom (with_start made) (leaf part.AscentBottom (text ∷ [])) (after_slots 1 names))) below 0 (Giving (location (end_or (last_of triples) Default)) below)
    none_ends is text =
        let no : count_of l ≡ 0 = grind (arith, nat_tests) in
        let default : Default ≡ end_or (last_of triples) Default = sym (ap (λ xs. end_or (last_of xs) Default) (none no)) in
        subst (λ (at : Loc). EndsIn p (Eval (bottom (with_start made) (leaf part.AscentBottom (text ∷ [])) (after_slots 1 names))) below 0 (Giving (location at) below)) default (end_of_none (with_start made) (after_slots 1 names) below text)

    abbrev place_by : List ℕ → Bool → Bool → AscentSpan
    place_by text a b = if a then span.Bottom text else (if b then span.Optional (count_of l - 1) else span.Fixed (count_of l - 1))

    placed_by : (text : List ℕ) (a b : Bool) → (count_of l == 0) ≡ a → is_cell l (count_of l - 1) ≡ b → AreThere p (span_made made (place_by text a b)).functions
        → Stands p m m 0 3 (place_seen look triples) (place_seen look triples) (lines_of names []) (span_lines made shared (place_by text a b) (lines_of names []))
    placed_by text true b some is functions = stands_by (ascent_span (span.Bottom text)) (located (ascent_span (span.Bottom text)) 0 (omega arith) (functions (length made.functions) (part_function 0) (get_behind made.functions (Some (part_function 0)) [])) (none_ends some text))
    placed_by text false true some is functions =
        let start = functions (length made.functions) (part_function 0) (get_first (with_start made).functions (Some inner_function ∷ []) (length made.functions) (get_behind made.functions (Some (part_function 0)) [])) in
        let end = functions (length (with_start made).functions) inner_function (get_behind (with_start made).functions (Some inner_function) []) in
        stands_by (ascent_span (span.Optional (count_of l - 1))) (located (ascent_span (span.Optional (count_of l - 1))) 1 (omega arith) start (cell_ends some is end))
    placed_by text false false some is functions =
        let start = functions (length made.functions) (part_function 0) (get_first (with_start made).functions (Some (part_function 2) ∷ []) (length made.functions) (get_behind made.functions (Some (part_function 0)) [])) in
        let end = functions (length (with_start made).functions) (part_function 2) (get_behind (with_start made).functions (Some (part_function 2)) []) in
        stands_by (ascent_span (span.Fixed (count_of l - 1))) (located (ascent_span (span.Fixed (count_of l - 1))) 1 (omega arith) start (fixed_ends some is end))

    -- without symbols the start and the end are this place
    pub none_placed : (g : Grammar) → AreThere p (span_made made (popped_span g l 0)).functions → Stands p m m 0 3 (place_seen look triples) (place_seen look triples) (lines_of names []) (span_lines made shared (popped_span g l 0) (lines_of names []))
    none_placed g functions = placed_by (location_text g) (count_of l == 0) (is_cell l (count_of l - 1)) refl refl functions
