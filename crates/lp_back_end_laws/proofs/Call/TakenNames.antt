-- The slots that a frame hands on, by their names: those that are taken out of cells, those that aren't, and the new symbol.
use Rattle.std.proofs.Common.{◌≡◌, ℕ, suc, ◌+◌, ◌-◌, ◌<◌, ◌≤◌, ◌^◌, Bool, true, false, List, [], ◌∷◌, ◌++◌, length, Option, Some, None, slice_get, refl, sym, ap, ◌∙◌, subst, ⊎_elim, arith, length-append, true≢false}
use Rattle.std.specs.Str.{bytes_eq}
use Rattle.std.specs.Option.{unwrap_or, option_and_then}
use Rattle.std.proofs.lemmas.Bool.{cases_lt}
use Rattle.std.proofs.lemmas.Option.{same_Some, slice_get_within}
use Rattle.lp_driver.specs.Values.{Spanned, Value}
use Rattle.lp_machine.specs.ReductionSpan.{popped}
use Rattle.lp_core.specs.Datum.{Cell, Unset}
use Rattle.lp_core.specs.Effect.{set_value}
use Rattle.lp_core.specs.Reading.{cell_of}
use Rattle.lp_core.specs.Store.{Program, Held, Slot}
use Rattle.lp_core.specs.Val.{Val, Plain}
use Rattle.lp_bodies.specs.Lines.{Lines}
use Rattle.lp_code_laws.specs.Ends.Ends.{Moment}
use Rattle.lp_maker.specs.Slots.{Names}
use Rattle.lp_code_laws.specs.Slots.Shows.{Shows}
use Rattle.lp_code_laws.proofs.Slots.Slots.{get_within}
use Rattle.lp_question_laws.specs.Tables.Acts.{symbol_val}
use Rattle.lp_repr.proofs.Lists.{slice_get_left, slice_get_past_left}
use Rattle.lp_ascent.specs.CallLines.{cells_from}
use Rattle.lp_ascent.specs.Slots.{Layout, count_of, is_cell}
use Rattle.lp_question_laws.specs.Reductions.Outer.{sym_name, IsOuter}
use Rattle.lp_question_laws.proofs.Reductions.Popping.{sym_apart}
use Rattle.lp_back_end_laws.specs.Call.Frames.{IsSlot, by_value, full, taken, AreSlots, AreApart, IsCell, is_before}
use Rattle.lp_back_end_laws.specs.Call.Handing.{with_values}
use Rattle.lp_back_end_laws.proofs.Call.Cells.{emptied, IsNone, Let, take_lines, AreFull, others_shown}
use Rattle.lp_back_end_laws.proofs.Call.FrameSlots.{slot_symbol, slot_value}
use Rattle.lp_back_end_laws.proofs.Call.TakenCells.{own_cell, cell_at, passes, taken_out}

-- the number of a slot's cell, and the value of a symbol
abbrev pub number_in : Option Val → ℕ
number_in o = unwrap_or (option_and_then cell_of o) 0

abbrev pub symbol_in : Option (Spanned Value) → Val
symbol_in None = Plain Unset
symbol_in (Some x) = symbol_val x

-- a name that differs from each of these symbols'
pub none_by : (js : List ℕ) (q : List ℕ) → ((i j : ℕ) → slice_get js i ≡ Some j → bytes_eq (sym_name j) q ≡ false) → IsNone js q
none_by [] q h = tt
none_by (j ∷ js) q h = (h 0 j refl, none_by js q (λ i x at. h (suc i) x at))

-- what stands in a slot can be read and stays
pub slot_set : {cells : List Held} {x : Spanned Value} {cell held : Bool} {v : Val} → IsSlot cells x cell held v → set_value v ≡ Some v
slot_set by_value = refl
slot_set (full n is) = refl
slot_set (taken n is) = refl

module _ {l : Layout} {triples : List (Spanned Value)} {own : List Val} {cells : List Held} (are : AreSlots l (is_cell l) 0 triples cells own) (first q : ℕ) (count : first + q ≡ count_of l) (small : count_of l < 2 ^ 64) where
  abbrev pub cell : ℕ → ℕ
  cell j = number_in (slice_get own j)

  abbrev pub value : ℕ → Val
  value j = symbol_in (slice_get (popped (count_of l) triples) j)

  pub cells_are : (j n : ℕ) → IsCell own j n → cell j ≡ n
  cells_are j n is = ap number_in is

  abbrev js : List ℕ
  js = cells_from l first

  -- a name that no symbol has
  pub outer_none : (key : List ℕ) → IsOuter key → IsNone js key
  outer_none key outer = none_by js key (λ i j at. let r = cell_at are cell cells_are first q count i j at in outer.no_symbol j (omega (arith, r.1, small)))

  module _ (names : Names) (env : List Val) (slots : (j : ℕ) (v : Val) → slice_get own j ≡ Some v → Shows names env (sym_name j) v) where
    -- the cells from a slot on are full
    pub cells_full : AreFull cell value js names env cells
    cells_full i j at =
        let r = cell_at are cell cells_are first q count i j at in
        let c = own_cell are cell cells_are first q count j r.1 r.2 in
        (omega (arith, r.1, small), slots j (Plain (Cell (cell j))) c.2, c.3 ∙ ap (λ o. Some (Slot (Some (symbol_in o)))) (sym c.1))

  -- once they are taken, with the new symbol's name
  module _ (apart : AreApart own) {p : Program} {start m : Moment} {k : ℕ} {lines : Lines} (y : Spanned Value) (slots : (j : ℕ) (v : Val) → slice_get own j ≡ Some v → Shows lines.names m.store.env (sym_name j) v) (top : Shows lines.names m.store.env (sym_name (count_of l)) (symbol_val y))
      (t : Let p start m k (λ i j. value j) js (emptied cell js m.store.cells) lines (take_lines js lines)) where
    abbrev out : List Val
    out = with_values first own (popped (count_of l) triples)

    -- a symbol that isn't taken
    not_taken : (i : ℕ) (u : Val) → i < 2 ^ 64 → ((n j : ℕ) → slice_get js n ≡ Some j → j ≡ i → ⊥) → Shows lines.names m.store.env (sym_name i) u → Shows (take_lines js lines).names t.env (sym_name i) u
    not_taken i u few other h =
        others_shown t (sym_name i) u (none_by js (sym_name i) (λ n j at. (let r = cell_at are cell cells_are first q count n j at in sym_apart j i (omega (arith, r.1, small)) few (other n j at)))) h

    own_shown : (i : ℕ) (u : Val) → i < count_of l → slice_get out i ≡ Some u → Shows (take_lines js lines).names t.env (sym_name i) u × (set_value u ≡ Some u)
    own_shown i u less at =
        let took = taken_out are cell cells_are first q count apart in
        let x = slot_symbol are i less in
        let o = get_within own i (omega (arith, less, are.count)) in
        let slot = are.each i x.0 o.0 x.1 o.1 in
        ⊎_elim
        (λ (below : i < first).
        let same : o.0 ≡ u = same_Some o.0 u (sym o.1 ∙ sym (took.kept i (omega (arith, below, count))) ∙ at) in
        (not_taken i u (omega (arith, less, small)) (λ n j is e. (let r = cell_at are cell cells_are first q count n j is in omega (arith, r.0, e, below))) (slots i u (o.1 ∙ ap Some same)), subst (λ v. set_value v ≡ Some v) same (slot_set slot)))
        (λ (from : first ≤ i).
        let same : symbol_val x.0 ≡ u = same_Some (symbol_val x.0) u (sym (took.values i x.0 (omega (arith, from, count)) x.1) ∙ at) in
        (subst (Shows (take_lines js lines).names t.env (sym_name i)) same (by_kind from x.0 x.1 slot (slots i o.0 o.1) (is_cell l i) refl), subst (λ v. set_value v ≡ Some v) same refl))
        (cases_lt i first)
      where
        by_kind : first ≤ i → (x : Spanned Value) → slice_get (popped (count_of l) triples) i ≡ Some x → {v : Val} → IsSlot cells x (is_cell l i) (is_before l 0 i) v → Shows lines.names m.store.env (sym_name i) v → (b : Bool) → is_cell l i ≡ b → Shows (take_lines js lines).names t.env (sym_name i) (symbol_val x)
        by_kind from x is slot shows true e =
            let w = passes (is_cell l) first (count_of l - first) i from (omega (arith, less, count)) e in
            subst (Shows (take_lines js lines).names t.env (sym_name i)) (ap symbol_in is) (t.shown w.0 i w.1)
        by_kind from x is {v} slot shows false e =
            let same : v ≡ symbol_val x = (slot_value slot e).1 in
            subst (Shows (take_lines js lines).names t.env (sym_name i)) same (not_taken i v (omega (arith, less, small)) (λ n j at e'. (let r = cell_at are cell cells_are first q count n j at in true≢false (sym r.2 ∙ ap (is_cell l) e' ∙ e))) shows)

    -- each slot that is handed on
    pub handed_shown : (i : ℕ) (u : Val) → slice_get (out ++ symbol_val y ∷ []) i ≡ Some u → Shows (take_lines js lines).names t.env (sym_name i) u × (set_value u ≡ Some u)
    handed_shown i u at =
        let many : length out ≡ count_of l = (taken_out are cell cells_are first q count apart).as_many ∙ are.count in
        let within : i < count_of l + 1 = omega (arith, slice_get_within (out ++ symbol_val y ∷ []) i u at, length-append out (symbol_val y ∷ []), many) in
        ⊎_elim
        (λ (less : i < count_of l). own_shown i u less (sym (slice_get_left out (symbol_val y ∷ []) i (omega (arith, less, many))) ∙ at))
        (λ (le : count_of l ≤ i).
        let here : i ≡ count_of l = omega (arith, le, within) in
        let same : symbol_val y ≡ u = same_Some (symbol_val y) u (sym (slice_get_past_left out (symbol_val y ∷ []) i 0 (omega (arith, le, within, many))) ∙ at) in
        let shows : Shows lines.names m.store.env (sym_name i) u = subst (λ j. Shows lines.names m.store.env (sym_name j) u) (sym here) (subst (Shows lines.names m.store.env (sym_name (count_of l))) same top) in
        (not_taken i u (omega (arith, here, small)) (λ n j is e. (let r = cell_at are cell cells_are first q count n j is in omega (arith, r.1, e, here))) shows, subst (λ v. set_value v ≡ Some v) same refl))
        (cases_lt i (count_of l))
