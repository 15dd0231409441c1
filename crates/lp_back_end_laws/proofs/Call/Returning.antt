-- What a frame finds when its callee has returned: of its own slots the last ones are taken, one less than of the callee's.
use Rattle.std.proofs.Common.{◌≡◌, ℕ, ◌+◌, ◌-◌, ◌<◌, ◌≤◌, Bool, true, false, List, Some, None, slice_get, ℤ, refl, sym, ap, ◌∙◌, subst, ⊎_elim, arith}
use Rattle.std.specs.Prelude.{slice_set}
use Rattle.std.proofs.lemmas.Bool.{cases_eq, cases_lt, lt-ltb, le-ltb}
use Rattle.lp_driver.specs.Values.{Spanned, Value}
use Rattle.lp_machine.specs.ReductionSpan.{popped}
use Rattle.lp_core.specs.Store.{Held, Slot, States}
use Rattle.lp_core.specs.Val.{Val}
use Rattle.lp_question_laws.specs.Tables.Acts.{symbol_val}
use Rattle.lp_code_laws.proofs.Ends.Lists.{get_same, get_other, length_set}
use Rattle.lp_ascent.specs.Slots.{Layout, count_of, is_cell}
use Rattle.lp_back_end_laws.specs.Call.Frames.{AreSlots, AreApart, IsCell, Emptied, IsSlot, is_before}
use Rattle.lp_back_end_laws.specs.Call.Handing.{HandsOn, TakenOut, handed_slots}
use Rattle.lp_back_end_laws.proofs.Call.FrameSlots.{content, slot_within, slot_number, slot_value, is_value, is_in_cell}
use Rattle.lp_back_end_laws.proofs.Call.Entering.{list_apart, list_out, handed_own, handed_there}

module _ (l k : Layout) (hands : HandsOn l k) {triples : List (Spanned Value)} {own out : List Val} {before after called : List Held} (x : Spanned Value) (list : ℕ) (above now : List ℤ)
    (are : AreSlots l (is_cell l) 0 triples before own) (apart : AreApart own) (took : TakenOut l (k.fixed - 1) triples own out before after) (there : slice_get before list ≡ Some (States above))
    (d e : ℕ) (more : d ≡ e + 1) (fixed : k.fixed ≤ d) (within : d ≤ count_of k) (h : Emptied k d (handed_slots l k out (symbol_val x)) (slice_set after list (States now)) called) where
  -- no cell that is handed over is the list's
  list_called : slice_get called list ≡ Some (States now)
  list_called = h.kept list (λ j is. let c = handed_own l k hands x list above now are apart took there j list is in absurd (list_apart l k hands x list above now are apart took there c.0 list c.3 refl)) ∙ get_same after list (list_out l k hands x list above now are apart took there)

  -- taken out before the call, and so for good
  taken_out : (j n : ℕ) → count_of l < j + k.fixed → IsCell own j n → slice_get called n ≡ Some (Slot None)
  taken_out j n le is =
      h.kept n (λ i at.
      let c = handed_own l k hands x list above now are apart took there i n at in
      let same = apart c.0 j n c.3 is in absurd (omega (arith, same, c.2, le)))
      ∙ get_other after list n (States now) (list_apart l k hands x list above now are apart took there j n is)
      ∙ took.cells.emptied j n (omega (arith, le)) is

  emptied : (j n : ℕ) → count_of l ≤ j + e → IsCell own j n → slice_get (slice_set called list (States above)) n ≡ Some (Slot None)
  emptied j n le is =
      get_other called list n (States above) (list_apart l k hands x list above now are apart took there j n is)
      ∙ ⊎_elim
      (λ (out : count_of l < j + k.fixed). taken_out j n out is)
      (λ (on : j + k.fixed ≤ count_of l).
      let i : ℕ = j + count_of k - (count_of l + 1) in
      h.emptied i n (omega (arith, le, more, within)) (handed_there l k hands x list above now are apart took there j i n (omega (arith, le, more, within)) on is))
      (cases_lt (count_of l) (j + k.fixed))

  kept : (n : ℕ) → ((j : ℕ) → IsCell own j n → j + e < count_of l) → slice_get (slice_set called list (States above)) n ≡ slice_get before n
  kept n deep = ⊎_elim
      (λ (same : list ≡ n). subst (λ m. slice_get (slice_set called list (States above)) m ≡ slice_get before m) same (get_same called list list_called ∙ sym there))
      (λ (other : list ≡ n → ⊥).
      get_other called list n (States above) other
      ∙ h.kept n (λ i at.
      let c = handed_own l k hands x list above now are apart took there i n at in
      omega (arith, c.1, deep c.0 c.3, more))
      ∙ get_other after list n (States now) other
      ∙ took.cells.kept n (λ j at. omega (arith, deep j at, more, fixed, hands.some_fixed)))
      (cases_eq list n)

  -- of the frame's own cells
  pub emptied_back : Emptied l e own before (slice_set called list (States above))
  emptied_back = record {
    as_many = length_set called list (States above) ∙ h.as_many ∙ length_set after list (States now) ∙ took.cells.as_many;
    emptied = emptied;
    kept = kept;
  }

  -- the list of states is as it was
  pub list_returned : slice_get (slice_set called list (States above)) list ≡ Some (States above)
  list_returned = get_same called list list_called

-- ---- after a callee that leaves slots
-- own slots of which the last e were emptied, none of them by value
pub slots_after : (l : Layout) (e : ℕ) (triples : List (Spanned Value)) (own : List Val) (before after : List Held) → AreSlots l (is_cell l) 0 triples before own → AreApart own → Emptied l e own before after → ((j : ℕ) → is_cell l j ≡ false → j < count_of l → j + e < count_of l) → AreSlots l (is_cell l) e triples after own
slots_after l e triples own before after are apart h deep = record { count = are.count; fits = are.fits; each = each }
  where
    each : (j : ℕ) (y : Spanned Value) (v : Val) → slice_get (popped (count_of l) triples) j ≡ Some y → slice_get own j ≡ Some v → IsSlot after y (is_cell l j) (is_before l e j) v
    each j y v at is = by_kind (is_cell l j) refl
      where
        less : j < count_of l
        less = slot_within are j v is

        by_kind : (b : Bool) → is_cell l j ≡ b → IsSlot after y (is_cell l j) (is_before l e j) v
        by_kind false no_cell = is_value (is_cell l j) (is_before l e j) v no_cell (lt-ltb (j + e) (count_of l) (deep j no_cell less)) (slot_value (are.each j y v at is) no_cell).1
        by_kind true cell =
            let c = slot_number (are.each j y v at is) cell in
            is_in_cell (is_cell l j) (is_before l e j) v c.0 cell c.1 (⊎_elim
            (λ (before_it : j + e < count_of l). h.kept c.0 (λ i other. let same = apart i j c.0 other (is ∙ ap Some c.1) in omega (arith, same, before_it)) ∙ c.2 ∙ ap (λ b. Some (content b y)) (lt-ltb (j + 0) (count_of l) (omega (arith, less)) ∙ sym (lt-ltb (j + e) (count_of l) before_it)))
            (λ (le : count_of l ≤ j + e). h.emptied j c.0 le (is ∙ ap Some c.1) ∙ ap (λ b. Some (content b y)) (sym (le-ltb (j + e) (count_of l) le)))
            (cases_lt (j + e) (count_of l)))
