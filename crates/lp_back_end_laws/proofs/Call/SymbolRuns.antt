-- The arm of a reduction with symbols: those in cells are taken, the first and the last tell the place, and the action is called over all of them.
use Rattle.std.proofs.Common.{◌≡◌, ℕ, ◌+◌, ◌-◌, ◌*◌, ◌<◌, ◌≤◌, ◌^◌, Bool, false, List, [], ◌++◌, length, map, codes, decimal, Option, Some, Ok, slice_get, refl, sym, ap, ◌∙◌, subst, arith, lt-ltb, length-drop}
use Rattle.std.specs.Prelude.{nat_lt, ◌==◌, if◌then◌else◌}
use Rattle.std.proofs.lemmas.Bool.Decides.{nat_tests}
use Rattle.std.proofs.lemmas.Option.{slice_get_within}
use Rattle.lp_repr.specs.declared.repr.Grammar.{Grammar}
use Rattle.lp_repr.specs.declared.values.Loc.{Loc}
use Rattle.lp_driver.specs.DriverState.{last_of}
use Rattle.lp_driver.specs.RecoveryTurns.{start_or, end_or}
use Rattle.lp_driver.specs.Values.{Spanned, Value}
use Rattle.lp_machine.specs.declared.calls.Acted.{Acted}
use Rattle.lp_machine.specs.ReductionSpan.{popped, span}
use Rattle.lp_agrees.specs.Machine.{as_user}
use Rattle.lp_question_laws.specs.Tables.Acts.{Acts, symbol_val, arguments}
use Rattle.lp_core.specs.declared.value.Tag.TheVariants as tag
use Rattle.lp_core.specs.Datum.{Parsed}
use Rattle.lp_core.specs.Effect.{set_value}
use Rattle.lp_core.specs.Reading.{wrapped, triple}
use Rattle.lp_core.specs.Store.{Program}
use Rattle.lp_core.specs.Val.{Val, Plain}
use Rattle.lp_build.specs.declared.ascent_reduce.AscentSpan.TheVariants as spans
use Rattle.lp_parts.specs.Texts.{location_text}
use Rattle.lp_view.specs.PartLists.{Form}
use Rattle.lp_ascent.specs.CallLines.{cells_from}
use Rattle.lp_ascent.specs.ReduceLines.{empty_span, popped_span}
use Rattle.lp_ascent.specs.Slots.{Layout, count_of, is_cell}
use Rattle.lp_ascent_bodies.specs.declared.ascent.Lines.{Lines as Shared}
use Rattle.lp_ascent_bodies.specs.AscentReductions.{ascent_reduce}
use Rattle.lp_bodies.specs.Lines.{Lines, lines_of}
use Rattle.lp_code_laws.specs.Ends.Ends.{Moment}
use Rattle.lp_maker.specs.Slots.{Names}
use Rattle.lp_maker.specs.Making.{Making, number_in}
use Rattle.lp_code_laws.specs.Slots.Shows.{Shows, HasRoom}
use Rattle.lp_question_laws.specs.Reductions.Outer.{sym_name}
use Rattle.lp_question_laws.specs.Reductions.Arguments.{ShowAll, names_in}
use Rattle.lp_question_laws.proofs.Reductions.Arguments.{show_append}
use Rattle.lp_question_laws.proofs.Reductions.Keys.{symbol_keys, AllOuter}
use Rattle.lp_back_end_laws.specs.Call.Frames.{AreSlots, AreApart}
use Rattle.lp_back_end_laws.proofs.Call.Cells.{over_cells, take_lines, Let}
use Rattle.lp_back_end_laws.proofs.Call.CodedEnds.{coded_ends}
use Rattle.lp_back_end_laws.proofs.Call.FrameSlots.{slot_symbol}
use Rattle.lp_back_end_laws.proofs.Call.FrameSymbols.{popped_fewer, show_symbols, symbol_at, cells_left, symbols_taken, symbol_shown, outer_shown}
use Rattle.lp_back_end_laws.proofs.Call.Lookups.{get_dropped}
use Rattle.lp_back_end_laws.proofs.Call.Loops.{result_of}
use Rattle.lp_back_end_laws.proofs.Call.Places.{Stands, popped_stands}
use Rattle.lp_back_end_laws.proofs.Call.ReduceArms.{span_lines}
use Rattle.lp_back_end_laws.proofs.Call.Reducing.{last_popped}
use Rattle.lp_back_end_laws.proofs.Call.ReductionArguments.{show_outer, some_arguments}
use Rattle.lp_back_end_laws.proofs.Call.ReductionCode.{Coded}
use Rattle.lp_back_end_laws.proofs.Call.ReductionEnds.{ArmEnds, placed_shown}

-- the place of some symbols is told by the first and the last
pub some_place : (g : Grammar) (l : Layout) (n : ℕ) → 0 < n → n ≤ count_of l → popped_span g l n ≡ spans.Symbols (count_of l - n) (count_of l - 1)
some_place g l n some within =
    let more : (count_of l == 0) ≡ false = grind (arith, nat_tests) in
    ap (λ (b : Bool). if b then spans.Bottom (location_text g) else (if nat_lt 0 n then spans.Symbols (count_of l - n) (count_of l - 1) else empty_span l (count_of l - 1))) more
    ∙ ap (λ (b : Bool). if b then spans.Symbols (count_of l - n) (count_of l - 1) else empty_span l (count_of l - 1)) (lt-ltb 0 n some)

-- where symbols stand that begin and end with these
span_is : (xs : List (Spanned Value)) (x y : Spanned Value) (e : Loc) → slice_get xs 0 ≡ Some x → last_of xs ≡ Some y → (x.0, y.2) ≡ span xs e
span_is xs x y e begins ends = sym (ap (λ (o : Option (Spanned Value)). (start_or o e, end_or (last_of xs) e)) begins ∙ ap (λ (o : Option (Spanned Value)). (x.0, end_or o e)) ends)

module _ (p : Program) (shared : Shared) {made before : Making} {names : Names} {many : ℕ} {form : Form} {fallible : Bool} {action : ℕ} {generics args : List ℕ} {variant : ℕ} {returning : Bool} (m : Moment) {l : Layout} {triples : List (Spanned Value)} {own : List Val}
    (are : AreSlots l (is_cell l) 0 triples m.store.cells own) (apart : AreApart own) (few : count_of l < 2 ^ 64) (shown : (j : ℕ) (v : Val) → slice_get own j ≡ Some v → Shows names m.store.env (sym_name j) v) (first n : ℕ) (count : first + n ≡ count_of l) (some : 0 < n)
    (code : Coded p made before names many form fallible action generics args variant (cells_from l first) (spans.Symbols first (count_of l - 1)) returning) (wide : length m.store.env ≡ many) where
  room : HasRoom (length (cells_from l first)) names m.store.env
  room = let r = code.room in record { room = omega (arith, r, wide) }

  abbrev taken : Let p m m 0 (λ i j. symbol_at (popped (count_of l) triples) j) (cells_from l first) (cells_left l first own m.store.cells) (lines_of names []) (take_lines (cells_from l first) (lines_of names []))
  taken = symbols_taken m are apart few shown first n count room p

  abbrev lines : Lines
  lines = take_lines (cells_from l first) (lines_of names [])

  -- the first symbol and the last
  first_symbol : (x : Spanned Value) × (slice_get (popped (count_of l) triples) first ≡ Some x)
  first_symbol = slot_symbol are first (omega (arith, count, some))

  last_symbol : (x : Spanned Value) × (slice_get (popped (count_of l) triples) (count_of l - 1) ≡ Some x)
  last_symbol = slot_symbol are (count_of l - 1) (omega (arith, count, some))

  abbrev placed : Stands p m (over_cells taken.env (cells_left l first own m.store.cells) m) taken.count 2 first_symbol.0.0 last_symbol.0.2 lines (span_lines made shared (spans.Symbols first (count_of l - 1)) lines)
  placed =
      let x = first_symbol in
      let y = last_symbol in
      let more = code.room in
      let two : HasRoom 2 lines.names taken.env = record { room = omega (arith, more, wide, taken.next, taken.keeps.many) } in
      popped_stands first (count_of l - 1) lines (x.0).0 (x.0).2 (y.0).0 (y.0).2 (Plain (Parsed (x.0).1)) (Plain (Parsed (y.0).1)) taken.ran two
      (symbol_shown m are apart few shown first n count room p first x.0 (omega arith) (omega (arith, count, some)) x.1)
      (symbol_shown m are apart few shown first n count room p (count_of l - 1) y.0 (omega (arith, count, some)) (omega (arith, count, some)) y.1)

  -- the symbols, and where they stand
  abbrev xs : List (Spanned Value)
  xs = popped n triples

  many_symbols : length xs ≡ n
  many_symbols = omega (arith, length-drop (length triples - n) triples, are.fits, count)

  symbol_is : (i : ℕ) → i < n → slice_get xs i ≡ slice_get (popped (count_of l) triples) (first + i)
  symbol_is i less = popped_fewer triples first n i (omega (arith, are.fits, count)) less ∙ ap (λ (j : ℕ). slice_get (popped j triples) (first + i)) count

  place_is : (e : Loc) → (first_symbol.0.0, last_symbol.0.2) ≡ span xs e
  place_is e =
      let none : first + 0 ≡ first = omega arith in
      let begins : slice_get xs 0 ≡ Some first_symbol.0 = symbol_is 0 some ∙ ap (slice_get (popped (count_of l) triples)) none ∙ first_symbol.1 in
      let last : last_of triples ≡ Some last_symbol.0 = sym (get_dropped triples (length triples - count_of l) (count_of l - 1) (length triples - 1) (omega (arith, are.fits, count, some))) ∙ last_symbol.1 in
      let ends : last_of xs ≡ Some last_symbol.0 = last_popped n triples some (omega (arith, are.fits, count)) ∙ last in
      span_is xs first_symbol.0 last_symbol.0 e begins ends

  module _ (keys : List (List ℕ)) (given : List Val) (outer : AllOuter keys) (parameters : ShowAll names m.store.env keys given) (args_are : names_in before.prefix args ≡ keys ++ symbol_keys first n) where
    abbrev after : Lines
    after = span_lines made shared (spans.Symbols first (count_of l - 1)) lines

    symbols_there : ShowAll after.names placed.env (symbol_keys first n) (map symbol_val xs)
    symbols_there =
        subst (λ (i : ℕ). ShowAll after.names placed.env (symbol_keys first i) (map symbol_val xs)) many_symbols
        (show_symbols after.names placed.env first xs (λ i x at.
        let less : i < n = omega (arith, slice_get_within xs i x at, many_symbols) in
        placed_shown placed (sym_name (first + i)) (symbol_val x) refl refl
        (symbol_shown m are apart few shown first n count room p (first + i) x (omega arith) (omega (arith, count, less)) (sym (symbol_is i less) ∙ at))))

    parameters_there : ShowAll after.names placed.env keys given
    parameters_there = show_outer names after.names m.store.env placed.env keys given outer (λ q v o h. placed_shown placed q v o.no_start o.no_end (outer_shown m are apart few shown first n count room p q v o h)) parameters

    args_shown : (place : Loc × Loc) → ShowAll after.names placed.env (names_in before.prefix args) (arguments given xs place)
    args_shown place =
        subst (λ (vs : List Val). ShowAll after.names placed.env (names_in before.prefix args) vs) (sym (some_arguments given xs place (omega (arith, many_symbols, some))))
        (subst (λ (qs : List (List ℕ)). ShowAll after.names placed.env qs (given ++ map symbol_val xs)) (sym args_are) (show_append after.names placed.env keys (symbol_keys first n) given (map symbol_val xs) parameters_there symbols_there))

    module _ (f : ℕ) (named : number_in (codes "super::action" ++ decimal action) before.names ≡ Some f) (cost : ℕ) (acted : Acted) (place : Loc × Loc) (acts : (at : Moment) → at.calls ≡ m.calls → Acts p f (arguments given xs place) fallible acted cost at)
        (infallible : fallible ≡ false → (v : Value) × (acted.result ≡ Ok v)) (look old : Val) (look_shown : Shows names m.store.env (codes "~lookahead") look) (look_set : set_value look ≡ Some look) (below : shared.made < names.next) (there : slice_get m.store.env shared.made ≡ Some old) (e : Loc) where
      -- it ends as the action does
      pub symbols_end : ArmEnds p (ascent_reduce shared made names form).value m (1 + cost * (length acted.calls + 1)) names.next shared.made returning (cells_left l first own m.store.cells) (m.calls ++ map as_user acted.calls)
          (λ v. result_of look (wrapped (tag.Variant variant) (triple (span xs e).0 (Plain (Parsed v)) (span xs e).1))) acted.result
      symbols_end =
          subst (λ (at : Loc × Loc). ArmEnds p (ascent_reduce shared made names form).value m (1 + cost * (length acted.calls + 1)) names.next shared.made returning (cells_left l first own m.store.cells) (m.calls ++ map as_user acted.calls)
          (λ v. result_of look (wrapped (tag.Variant variant) (triple at.0 (Plain (Parsed v)) at.1))) acted.result) (place_is e)
          (coded_ends shared code (λ i j. symbol_at (popped (count_of l) triples) j) taken first_symbol.0.0 last_symbol.0.2 placed refl wide f named (arguments given xs place) (args_shown place) cost acted (acts _ refl) infallible look old look_shown look_set below there)
