-- The symbols of a frame's last slots, once those that are cells are taken: each name shows its symbol.
use Rattle.std.proofs.Common.{◌≡◌, ℕ, suc, ◌+◌, ◌-◌, ◌<◌, ◌≤◌, ◌^◌, Bool, true, false, List, [], ◌∷◌, map, length, Some, slice_get, refl, sym, ap, ◌∙◌, subst, arith}
use Rattle.std.proofs.lemmas.Bool.{false≢true}
use Rattle.std.specs.Option.{option_map, option_and_then, unwrap_or}
use Rattle.lp_driver.specs.Values.{Spanned, Value}
use Rattle.lp_machine.specs.ReductionSpan.{popped}
use Rattle.lp_core.specs.Datum.{Cell, Unset}
use Rattle.lp_core.specs.Reading.{cell_of}
use Rattle.lp_core.specs.Store.{Program, Held, Slot}
use Rattle.lp_core.specs.Val.{Val, Plain}
use Rattle.lp_question_laws.specs.Tables.Acts.{symbol_val}
use Rattle.lp_code_laws.specs.Ends.Ends.{Moment}
use Rattle.lp_maker.specs.Slots.{Names}
use Rattle.lp_bodies.specs.Lines.{lines_of}
use Rattle.lp_code_laws.specs.Slots.Shows.{Shows, HasRoom}
use Rattle.lp_code_laws.proofs.Slots.Slots.{get_within}
use Rattle.lp_code_laws.proofs.Printed.Lines.{no_lines}
use Rattle.lp_question_laws.specs.Reductions.Outer.{sym_name, IsOuter}
use Rattle.lp_question_laws.specs.Reductions.Arguments.{ShowAll}
use Rattle.lp_question_laws.proofs.Reductions.Keys.{symbol_keys}
use Rattle.lp_ascent.specs.Slots.{Layout, count_of, is_cell}
use Rattle.lp_ascent.specs.CallLines.{cells_from}
use Rattle.lp_back_end_laws.specs.Call.Frames.{AreSlots, AreApart, IsCell, Emptied}
use Rattle.lp_back_end_laws.proofs.Call.Cells.{emptied, take_lines, IsNone, AreFull, Let, others_shown, none_of, all_taken}
use Rattle.lp_back_end_laws.proofs.Call.CellLists.{cell_number}
use Rattle.lp_back_end_laws.proofs.Call.FrameSlots.{slot_value}
use Rattle.lp_back_end_laws.proofs.Call.Lookups.{get_dropped}
use Rattle.lp_back_end_laws.proofs.Call.TakenCells.{passes, own_cell, cell_at, cells_apart, cells_emptied}

-- the symbols that fewer slots have are the last of those that more have
pub popped_fewer : {A : Type 0} (xs : List A) (first n i : ℕ) → first + n ≤ length xs → i < n → slice_get (popped n xs) i ≡ slice_get (popped (first + n) xs) (first + i)
popped_fewer xs first n i fits less = get_dropped xs (length xs - n) i (length xs - n + i) refl ∙ sym (get_dropped xs (length xs - (first + n)) (first + i) (length xs - n + i) (omega (arith, fits, less)))

-- names of symbols that show them, one by one
pub show_symbols : (names : Names) (env : List Val) (k : ℕ) (xs : List (Spanned Value)) → ((i : ℕ) (x : Spanned Value) → slice_get xs i ≡ Some x → Shows names env (sym_name (k + i)) (symbol_val x)) → ShowAll names env (symbol_keys k (length xs)) (map symbol_val xs)
show_symbols names env k [] h = tt
show_symbols names env k (x ∷ xs) h =
    let none : k + 0 ≡ k = omega arith in (
      subst (λ (j : ℕ). Shows names env (sym_name j) (symbol_val x)) none (h 0 x refl),
      refl,
      show_symbols names env (k + 1) xs (λ i y at. (let same : k + suc i ≡ (k + 1) + i = omega arith in subst (λ (j : ℕ). Shows names env (sym_name j) (symbol_val y)) same (h (suc i) y at))),
    )

-- a name that no line binds is no symbol's
none_outer : (js : List ℕ) (q : List ℕ) → IsOuter q → ((i x : ℕ) → slice_get js i ≡ Some x → x < 2 ^ 64) → IsNone js q
none_outer [] q outer small = tt
none_outer (j ∷ js) q outer small = (outer.no_symbol j (small 0 j refl), none_outer js q outer (λ i x at. small (suc i) x at))

-- what a symbol of a frame is
abbrev pub symbol_at : List (Spanned Value) → ℕ → Val
symbol_at xs j = unwrap_or (option_map symbol_val (slice_get xs j)) (Plain Unset)

-- the number of the cell in a slot that is one
cells_are : (own : List Val) (j k : ℕ) → IsCell own j k → cell_number own j ≡ k
cells_are own j k is = ap (λ o. unwrap_or (option_and_then cell_of o) 0) is

-- the cells once those from a slot on are taken
abbrev pub cells_left : Layout → ℕ → List Val → List Held → List Held
cells_left l first own cells = emptied (cell_number own) (cells_from l first) cells

-- these are emptied
pub last_emptied : {l : Layout} {triples : List (Spanned Value)} {cells : List Held} {own : List Val} → AreSlots l (is_cell l) 0 triples cells own → AreApart own → (first n : ℕ) → first + n ≡ count_of l → Emptied l n own cells (cells_left l first own cells)
last_emptied {own = own} are apart first n count = cells_emptied are (cell_number own) (cells_are own) first n count apart

module _ {names : Names} (m : Moment) {l : Layout} {triples : List (Spanned Value)} {own : List Val} (are : AreSlots l (is_cell l) 0 triples m.store.cells own) (apart : AreApart own) (few : count_of l < 2 ^ 64)
    (shown : (j : ℕ) (v : Val) → slice_get own j ≡ Some v → Shows names m.store.env (sym_name j) v) (first n : ℕ) (count : first + n ≡ count_of l) (room : HasRoom (length (cells_from l first)) names m.store.env) where
  small : (i j : ℕ) → slice_get (cells_from l first) i ≡ Some j → j < 2 ^ 64
  small i j at = let less = (cell_at are (cell_number own) (cells_are own) first n count i j at).1 in omega (arith, less, few)

  full : AreFull (cell_number own) (symbol_at (popped (count_of l) triples)) (cells_from l first) names m.store.env m.store.cells
  full i j at =
      let c = cell_at are (cell_number own) (cells_are own) first n count i j at in
      let o = own_cell are (cell_number own) (cells_are own) first n count j c.1 c.2 in
      (small i j at, shown j (Plain (Cell (cell_number own j))) o.2, o.3 ∙ ap (λ s. Some (Slot (Some (unwrap_or (option_map symbol_val s) (Plain Unset))))) (sym o.1))

  module _ (p : Program) where
    -- the cells are taken
    pub symbols_taken : Let p m m 0 (λ i j. symbol_at (popped (count_of l) triples) j) (cells_from l first) (cells_left l first own m.store.cells) (lines_of names []) (take_lines (cells_from l first) (lines_of names []))
    symbols_taken = all_taken m (cell_number own) (symbol_at (popped (count_of l) triples)) (cells_from l first) (lines_of names []) m 0 (no_lines names m) room (cells_apart are (cell_number own) (cells_are own) first n count apart) full

    -- each name shows its symbol
    pub symbol_shown : (j : ℕ) (x : Spanned Value) → first ≤ j → j < count_of l → slice_get (popped (count_of l) triples) j ≡ Some x → Shows (take_lines (cells_from l first) (lines_of names [])).names symbols_taken.env (sym_name j) (symbol_val x)
    symbol_shown j x low less at = by (is_cell l j) refl
      where
        by : (b : Bool) → is_cell l j ≡ b → Shows (take_lines (cells_from l first) (lines_of names [])).names symbols_taken.env (sym_name j) (symbol_val x)
        by true is =
            let w = passes (is_cell l) first (count_of l - first) j low (omega (arith, less, low)) is in
            subst (λ (o : Val). Shows (take_lines (cells_from l first) (lines_of names [])).names symbols_taken.env (sym_name j) o) (ap (λ s. unwrap_or (option_map symbol_val s) (Plain Unset)) at) (symbols_taken.shown w.0 j w.1)
        by false is =
            let v = get_within own j (omega (arith, less, are.count)) in
            let e = (slot_value (are.each j x v.0 at v.1) is).1 in
            let none = none_of (cells_from l first) j (omega (arith, less, few)) (λ i y there. (small i y there, λ same. false≢true (sym is ∙ ap (is_cell l) same ∙ (cell_at are (cell_number own) (cells_are own) first n count i y there).2))) in
            others_shown symbols_taken (sym_name j) (symbol_val x) none (subst (λ (o : Val). Shows names m.store.env (sym_name j) o) e (shown j v.0 v.1))

    -- and names that no line binds show what they showed
    pub outer_shown : (q : List ℕ) (v : Val) → IsOuter q → Shows names m.store.env q v → Shows (take_lines (cells_from l first) (lines_of names [])).names symbols_taken.env q v
    outer_shown q v outer h = others_shown symbols_taken q v (none_outer (cells_from l first) q outer small) h
