-- The arm of a reduction without symbols: the action is called over its place.
use Rattle.std.proofs.Common.{◌≡◌, ℕ, ◌+◌, ◌-◌, ◌*◌, ◌<◌, Bool, true, false, List, [], ◌∷◌, ◌++◌, length, map, codes, decimal, Option, Some, Ok, slice_get, refl, sym, subst, arith}
use Rattle.std.specs.Prelude.{◌==◌, if◌then◌else◌}
use Rattle.std.proofs.lemmas.Option.{none-some}
use Rattle.lp_repr.specs.declared.repr.Grammar.{Grammar}
use Rattle.lp_repr.specs.declared.values.Loc.{Loc}
use Rattle.lp_driver.specs.Values.{Token, Spanned, Value}
use Rattle.lp_machine.specs.declared.calls.Acted.{Acted}
use Rattle.lp_agrees.specs.Machine.{as_user}
use Rattle.lp_question_laws.specs.Tables.Acts.{Acts, arguments}
use Rattle.lp_core.specs.declared.value.Tag.TheVariants as tag
use Rattle.lp_core.specs.Datum.{Parsed, Unset}
use Rattle.lp_core.specs.Reading.{wrapped, triple, location}
use Rattle.lp_core.specs.Store.{Program}
use Rattle.lp_core.specs.Val.{Val, Plain}
use Rattle.lp_build.specs.declared.ascent_reduce.AscentSpan.TheVariants as spans
use Rattle.lp_parts.specs.Texts.{location_text}
use Rattle.lp_view.specs.PartLists.{Form}
use Rattle.lp_ascent.specs.ReduceLines.{popped_span}
use Rattle.lp_ascent.specs.Slots.{Layout, count_of, is_cell}
use Rattle.lp_ascent_bodies.specs.declared.ascent.Lines.{Lines as Shared}
use Rattle.lp_ascent_bodies.specs.AscentReductions.{ascent_reduce}
use Rattle.lp_bodies.specs.Lines.{Lines, lines_of}
use Rattle.lp_code_laws.specs.Ends.Ends.{Moment}
use Rattle.lp_maker.specs.Slots.{Names}
use Rattle.lp_maker.specs.Making.{Making, number_in}
use Rattle.lp_code_laws.specs.Slots.Shows.{Shows, HasRoom}
use Rattle.lp_code_laws.proofs.Slots.Slots.{keeps_all}
use Rattle.lp_code_laws.proofs.Printed.Lines.{no_lines}
use Rattle.lp_question_laws.specs.Reductions.Outer.{sym_name}
use Rattle.lp_question_laws.specs.Reductions.Arguments.{ShowAll, names_in}
use Rattle.lp_question_laws.proofs.Reductions.Arguments.{show_append}
use Rattle.lp_question_laws.proofs.Reductions.Keys.{argument_keys, AllOuter}
use Rattle.lp_back_end_laws.specs.Call.Frames.{AreSlots}
use Rattle.lp_back_end_laws.specs.Call.Standing.{look_val}
use Rattle.lp_back_end_laws.proofs.Call.Cells.{Let}
use Rattle.lp_back_end_laws.proofs.Call.CodedEnds.{coded_ends}
use Rattle.lp_back_end_laws.proofs.Call.Loops.{result_of}
use Rattle.lp_back_end_laws.proofs.Call.MatchBlocks.{look_set}
use Rattle.lp_back_end_laws.proofs.Call.NonePlaces.{place_seen, none_placed}
use Rattle.lp_back_end_laws.proofs.Call.Places.{Stands}
use Rattle.lp_back_end_laws.proofs.Call.ReduceArms.{span_lines}
use Rattle.lp_back_end_laws.proofs.Call.ReductionArguments.{show_outer}
use Rattle.lp_back_end_laws.proofs.Call.ReductionCode.{span_slots, Coded}
use Rattle.lp_back_end_laws.proofs.Call.ReductionEnds.{ArmEnds, placed_shown}

none_slots : (g : Grammar) (l : Layout) → 3 ≡ span_slots (popped_span g l 0)
none_slots g l = by (count_of l == 0) (is_cell l (count_of l - 1))
  where
    by : (a b : Bool) → 3 ≡ span_slots (if a then spans.Bottom (location_text g) else (if b then spans.Optional (count_of l - 1) else spans.Fixed (count_of l - 1)))
    by true b = refl
    by false true = refl
    by false false = refl

module _ (p : Program) (shared : Shared) (g : Grammar) {made before : Making} {names : Names} {many : ℕ} {form : Form} {fallible : Bool} {action : ℕ} {generics args : List ℕ} {variant : ℕ} {returning : Bool} (m : Moment) {l : Layout} {triples : List (Spanned Value)} {own : List Val}
    (are : AreSlots l (is_cell l) 0 triples m.store.cells own) (shown : (j : ℕ) (v : Val) → slice_get own j ≡ Some v → Shows names m.store.env (sym_name j) v) (empty : count_of l ≡ 0 → triples ≡ [])
    (code : Coded p made before names many form fallible action generics args variant [] (popped_span g l 0) returning) (wide : length m.store.env ≡ many) (look : Option (Spanned Token)) (look_there : slice_get m.store.env shared.lookahead ≡ Some (look_val look)) where
  room : HasRoom 3 names m.store.env
  room = let r = code.room in let three = none_slots g l in record { room = omega (arith, r, wide, three) }

  -- no cell is taken
  abbrev none_taken : Let p m m 0 (λ i j. Plain Unset) [] m.store.cells (lines_of names []) (lines_of names [])
  none_taken = record { env = m.store.env; count = 0; ran = no_lines names m; counted = refl; next = omega arith; keeps = keeps_all names.next m.store.env; shown = λ i j at. absurd (none-some j at); known = λ q none. refl }

  abbrev e : Loc
  e = place_seen look triples

  abbrev after : Lines
  after = span_lines made shared (popped_span g l 0) (lines_of names [])

  abbrev placed : Stands p m m 0 3 e e (lines_of names []) after
  placed = none_placed p made shared names m room look look_there triples l own are shown empty g code.functions

  module _ (keys : List (List ℕ)) (given : List Val) (outer : AllOuter keys) (parameters : ShowAll names m.store.env keys given) (args_are : names_in before.prefix args ≡ keys ++ argument_keys 0) where
    args_shown : ShowAll after.names placed.env (names_in before.prefix args) (arguments given [] (e, e))
    args_shown =
        subst (λ (qs : List (List ℕ)). ShowAll after.names placed.env qs (given ++ location e ∷ location e ∷ [])) (sym args_are)
        (show_append after.names placed.env keys (argument_keys 0) given (location e ∷ location e ∷ [])
        (show_outer names after.names m.store.env placed.env keys given outer (λ q v o h. placed_shown placed q v o.no_start o.no_end h) parameters)
        (placed.from_shown, refl, (placed.to_shown, refl, tt)))

    -- it ends as the action does
    pub none_ends : (f : ℕ) → number_in (codes "super::action" ++ decimal action) before.names ≡ Some f → (cost : ℕ) (acted : Acted) → ((at : Moment) → at.calls ≡ m.calls → Acts p f (arguments given [] (e, e)) fallible acted cost at) → (fallible ≡ false → (v : Value) × (acted.result ≡ Ok v))
        → Shows names m.store.env (codes "~lookahead") (look_val look) → (old : Val) → shared.made < names.next → slice_get m.store.env shared.made ≡ Some old
        → ArmEnds p (ascent_reduce shared made names form).value m (1 + cost * (length acted.calls + 1)) names.next shared.made returning m.store.cells (m.calls ++ map as_user acted.calls)
        (λ v. result_of (look_val look) (wrapped (tag.Variant variant) (triple e (Plain (Parsed v)) e))) acted.result
    none_ends f named cost acted acts infallible look_shown old below there =
        coded_ends shared code (λ i j. Plain Unset) none_taken e e placed (none_slots g l) wide f named (arguments given [] (e, e)) args_shown cost acted (acts _ refl) infallible (look_val look) old look_shown (look_set look) below there
