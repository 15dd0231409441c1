-- What a callee is handed: its slots are the last of the frame's own ones with the new symbol.
use Rattle.std.proofs.Common.{◌≡◌, ◌⊎◌, ℕ, ◌+◌, ◌-◌, ◌<◌, ◌≤◌, Bool, true, List, [], ◌∷◌, ◌++◌, length, Some, slice_get, ℤ, refl, sym, ap, ◌∙◌, subst, ⊎_elim, inl, inr, arith, length-append, length-drop}
use Rattle.std.specs.Prelude.{slice_set}
use Rattle.std.proofs.lemmas.Bool.{cases_lt, lt-ltb, le-ltb}
use Rattle.std.proofs.lemmas.Option.{none-some, same_Some, slice_get_within}
use Rattle.lp_driver.specs.Values.{Spanned, Value}
use Rattle.lp_machine.specs.ReductionSpan.{popped}
use Rattle.lp_core.specs.Datum.{Cell}
use Rattle.lp_core.specs.Reading.{cell_of}
use Rattle.lp_core.specs.Store.{Held, States}
use Rattle.lp_core.specs.Val.{Val, Plain}
use Rattle.lp_question_laws.specs.Tables.Acts.{symbol_val}
use Rattle.lp_code_laws.proofs.Ends.Lists.{get_other}
use Rattle.lp_repr.proofs.Lists.{slice_get_left, slice_get_past_left}
use Rattle.lp_ascent.specs.Slots.{Layout, count_of, optional_of, is_cell}
use Rattle.lp_back_end_laws.specs.Call.Frames.{IsSlot, AreSlots, AreApart, IsCell, comes_as_cell, is_before}
use Rattle.lp_back_end_laws.specs.Call.Handing.{HandsOn, TakenOut, handed_slots}
use Rattle.lp_back_end_laws.proofs.Call.FrameSlots.{slot_number, is_value, is_in_cell, content, slot_symbol, cell_content}
use Rattle.lp_back_end_laws.proofs.Call.Layouts.{optional_cell, made_cell}
use Rattle.lp_back_end_laws.proofs.Call.Lookups.{get_dropped}

-- what is handed on as a cell is one
pub handed_are_cells : (l k : Layout) → HandsOn l k → (j : ℕ) → j + k.fixed ≤ count_of l → count_of l < j + count_of k → is_cell l j ≡ true
handed_are_cells l k hands j le more = ⊎_elim
    (λ (many : 1 < k.fixed). optional_cell l j (let g = hands.fixed_grow many in omega arith))
    (λ (few : k.fixed ≤ 1). made_cell l j (hands.made_optional (omega (arith, hands.some_fixed)) (omega (arith, hands.some_fixed))))
    (cases_lt 1 k.fixed)

-- the cell of a slot isn't that of a list of states
pub not_list : (cells : List Held) (held : Bool) (x : Spanned Value) (states : List ℤ) (n list : ℕ) → slice_get cells n ≡ Some (content held x) → slice_get cells list ≡ Some (States states) → list ≡ n → ⊥
not_list cells held x states n list is at same =
    let e : content held x ≡ States states = same_Some (content held x) (States states) (sym is ∙ subst (λ i. slice_get cells i ≡ Some (States states)) same at) in
    cc

-- a symbol's value is no cell
no_cell : (x : Spanned Value) (n : ℕ) → symbol_val x ≡ Plain (Cell n) → ⊥
no_cell x n e = none-some n (ap cell_of e)

module _ (l k : Layout) (hands : HandsOn l k) {triples : List (Spanned Value)} {own out : List Val} {before after : List Held} (x : Spanned Value) (list : ℕ) (above now : List ℤ)
    (are : AreSlots l (is_cell l) 0 triples before own) (apart : AreApart own) (took : TakenOut l (k.fixed - 1) triples own out before after) (there : slice_get before list ≡ Some (States above)) where
  -- the list of states is none of the frame's cells
  pub list_apart : (j n : ℕ) → IsCell own j n → list ≡ n → ⊥
  list_apart j n is = let c = cell_content are j n is in not_list before (is_before l 0 j) c.0 above n list c.2 there

  -- which is left when slots are taken out
  pub list_out : slice_get after list ≡ Some (States above)
  list_out = took.cells.kept list (λ j is. absurd (list_apart j list is refl)) ∙ there

  -- which slot is handed over, or it is the new symbol
  handed_from : (j : ℕ) (v : Val) → slice_get (handed_slots l k out (symbol_val x)) j ≡ Some v → (i : ℕ) × (j + (count_of l + 1) ≡ i + count_of k) × (((i < count_of l) × (slice_get out i ≡ Some v)) ⊎ ((i ≡ count_of l) × (v ≡ symbol_val x)))
  handed_from j v is =
      let i : ℕ = count_of l + 1 - count_of k + j in
      let at : slice_get (out ++ symbol_val x ∷ []) i ≡ Some v = sym (get_dropped (out ++ symbol_val x ∷ []) (count_of l + 1 - count_of k) j i refl) ∙ is in
      let many : length out ≡ count_of l = took.as_many ∙ are.count in
      let top : i < count_of l + 1 = omega (arith, slice_get_within (out ++ symbol_val x ∷ []) i v at, length-append out (symbol_val x ∷ []), many) in (
        i,
        omega (arith, hands.within),
        ⊎_elim
            (λ (less : i < count_of l). inl (less, sym (slice_get_left out (symbol_val x ∷ []) i (omega (arith, less, many))) ∙ at))
            (λ (le : count_of l ≤ i). inr (omega arith, sym (same_Some (symbol_val x) v (sym (slice_get_past_left out (symbol_val x ∷ []) i 0 (omega (arith, le, top, many))) ∙ at))))
            (cases_lt i (count_of l)),
      )

  -- the symbol of a slot that is handed over
  symbol_from : (i j : ℕ) (y : Spanned Value) → j + (count_of l + 1) ≡ i + count_of k → slice_get (popped (count_of k) (triples ++ x ∷ [])) j ≡ Some y
      → ((i < count_of l) × (slice_get (popped (count_of l) triples) i ≡ Some y)) ⊎ ((i ≡ count_of l) × (y ≡ x))
  symbol_from i j y e is =
      let n = length triples in
      let many : length (triples ++ x ∷ []) ≡ n + 1 = length-append triples (x ∷ []) in
      let m : ℕ = n - count_of l + i in
      let at : slice_get (triples ++ x ∷ []) m ≡ Some y = sym (get_dropped (triples ++ x ∷ []) (length (triples ++ x ∷ []) - count_of k) j m (omega (arith, many, hands.within, are.fits, e))) ∙ is in
      let top : m < n + 1 = omega (arith, slice_get_within (triples ++ x ∷ []) m y at, many) in
      ⊎_elim
      (λ (less : m < n). inl (omega (arith, less, are.fits), get_dropped triples (n - count_of l) i m refl ∙ sym (slice_get_left triples (x ∷ []) m less) ∙ at))
      (λ (le : n ≤ m). inr (omega (arith, le, top, are.fits), sym (same_Some x y (sym (slice_get_past_left triples (x ∷ []) m 0 (omega (arith, le, top))) ∙ at))))
      (cases_lt m n)

  -- a cell that is handed over is one of the frame's that isn't taken out
  pub handed_own : (j n : ℕ) → IsCell (handed_slots l k out (symbol_val x)) j n → (i : ℕ) × (j + (count_of l + 1) ≡ i + count_of k) × (i + k.fixed ≤ count_of l) × IsCell own i n
  handed_own j n is =
      let f = handed_from j (Plain (Cell n)) is in
      ⊎_elim (λ (s : (f.0 < count_of l) × (slice_get out f.0 ≡ Some (Plain (Cell n)))). ⊎_elim
      (λ (less : f.0 + (k.fixed - 1) < count_of l). (f.0, f.1, omega (arith, less, hands.some_fixed), sym (took.kept f.0 less) ∙ s.1))
      (λ (le : count_of l ≤ f.0 + (k.fixed - 1)).
      let y = slot_symbol are f.0 s.0 in
      absurd (no_cell y.0 n (same_Some (symbol_val y.0) (Plain (Cell n)) (sym (took.values f.0 y.0 le y.1) ∙ s.1))))
      (cases_lt (f.0 + (k.fixed - 1)) (count_of l)))
      (λ (s : (f.0 ≡ count_of l) × (Plain (Cell n) ≡ symbol_val x)). absurd (no_cell x n (sym s.1)))
      f.2

  -- and each of those at its place
  pub handed_there : (i j n : ℕ) → j + (count_of l + 1) ≡ i + count_of k → i + k.fixed ≤ count_of l → IsCell own i n → IsCell (handed_slots l k out (symbol_val x)) j n
  handed_there i j n e le is =
      let at : slice_get out i ≡ Some (Plain (Cell n)) = took.kept i (omega (arith, le, hands.some_fixed)) ∙ is in
      get_dropped (out ++ symbol_val x ∷ []) (count_of l + 1 - count_of k) j i (omega (arith, e, hands.within)) ∙ slice_get_left out (symbol_val x ∷ []) i (slice_get_within out i (Plain (Cell n)) at) ∙ at

  pub handed_apart : AreApart (handed_slots l k out (symbol_val x))
  handed_apart i j n a b =
      let f = handed_own i n a in
      let g = handed_own j n b in
      let same = apart f.0 g.0 n f.3 g.3 in
      omega (arith, same, f.1, g.1)

  -- what a cell holds that isn't taken out is left
  cell_left : (i n : ℕ) → i + k.fixed ≤ count_of l → IsCell own i n → slice_get (slice_set after list (States now)) n ≡ slice_get before n
  cell_left i n le is =
      let c = cell_content are i n is in
      get_other after list n (States now) (not_list before (is_before l 0 i) c.0 above n list c.2 there)
      ∙ took.cells.kept n (λ j at. let same = apart j i n at is in omega (arith, same, le, hands.some_fixed))

  slot_handed : (j : ℕ) (y : Spanned Value) (v : Val) → slice_get (popped (count_of k) (triples ++ x ∷ [])) j ≡ Some y → slice_get (handed_slots l k out (symbol_val x)) j ≡ Some v
      → IsSlot (slice_set after list (States now)) y (comes_as_cell k j) (is_before k 0 j) v
  slot_handed j y v at is =
      let f = handed_from j v is in
      let s = symbol_from f.0 j y f.1 at in
      ⊎_elim
      (λ (a : (f.0 < count_of l) × (slice_get out f.0 ≡ Some v)). ⊎_elim
      (λ (b : (f.0 < count_of l) × (slice_get (popped (count_of l) triples) f.0 ≡ Some y)). ⊎_elim
      (λ (less : f.0 + (k.fixed - 1) < count_of l).
      let le : f.0 + k.fixed ≤ count_of l = omega (arith, less, hands.some_fixed) in
      let own_is : slice_get own f.0 ≡ Some v = sym (took.kept f.0 less) ∙ a.1 in
      let c = slot_number (are.each f.0 y v b.1 own_is) (handed_are_cells l k hands f.0 le (omega (arith, f.1))) in
      let e : is_before l 0 f.0 ≡ is_before k 0 j = lt-ltb (f.0 + 0) (count_of l) (omega (arith, a.0)) ∙ sym (lt-ltb (j + 0) (count_of k) (omega (arith, f.1, a.0))) in
      is_in_cell (comes_as_cell k j) (is_before k 0 j) v c.0 (lt-ltb j (optional_of k) (omega (arith, f.1, le, hands.fixed_within, hands.some_fixed))) c.1
      (cell_left f.0 c.0 le (own_is ∙ ap Some c.1) ∙ c.2 ∙ ap (λ h. Some (content h y)) e))
      (λ (le : count_of l ≤ f.0 + (k.fixed - 1)). by_itself j y v (omega (arith, f.1, a.0)) (omega (arith, f.1, le, hands.some_fixed, hands.fixed_within)) (same_Some v (symbol_val y) (sym a.1 ∙ took.values f.0 y le b.1)))
      (cases_lt (f.0 + (k.fixed - 1)) (count_of l)))
      (λ (b : (f.0 ≡ count_of l) × (y ≡ x)). absurd (omega (arith, a.0, b.0)))
      s)
      (λ (a : (f.0 ≡ count_of l) × (v ≡ symbol_val x)). ⊎_elim
      (λ (b : (f.0 < count_of l) × (slice_get (popped (count_of l) triples) f.0 ≡ Some y)). absurd (omega (arith, a.0, b.0)))
      (λ (b : (f.0 ≡ count_of l) × (y ≡ x)). by_itself j y v (omega (arith, f.1, a.0)) (omega (arith, f.1, a.0, hands.some_fixed, hands.fixed_within)) (a.1 ∙ ap symbol_val (sym b.1)))
      s)
      f.2
    where
      by_itself : (j : ℕ) (y : Spanned Value) (v : Val) → j < count_of k → count_of k ≤ j + k.fixed → v ≡ symbol_val y → IsSlot (slice_set after list (States now)) y (comes_as_cell k j) (is_before k 0 j) v
      by_itself j y v less le e = is_value (comes_as_cell k j) (is_before k 0 j) v (le-ltb j (optional_of k) (omega (arith, le))) (lt-ltb (j + 0) (count_of k) (omega (arith, less))) e

  -- the callee's slots
  pub handed_are : AreSlots k (comes_as_cell k) 0 (triples ++ x ∷ []) (slice_set after list (States now)) (handed_slots l k out (symbol_val x))
  handed_are = record {
    count = omega (arith, length-drop (count_of l + 1 - count_of k) (out ++ symbol_val x ∷ []), length-append out (symbol_val x ∷ []), took.as_many, are.count, hands.within);
    fits = omega (arith, length-append triples (x ∷ []), hands.within, are.fits);
    each = slot_handed;
  }
