-- A frame's own slots, when its function begins: they are full, and what they are to the slots that it was handed.
use Rattle.std.proofs.Common.{◌≡◌, ◌⊎◌, ℕ, ◌+◌, ◌-◌, ◌<◌, ◌≤◌, Bool, true, false, List, ◌++◌, length, take, Some, slice_get, refl, sym, ap, ◌∙◌, subst, ⊎_elim, inl, inr, arith, ltb-true}
use Rattle.std.specs.Prelude.{◌||◌}
use Rattle.std.proofs.lemmas.Bool.{cases_lt, lt-ltb, le-ltb}
use Rattle.std.proofs.lemmas.Option.{same_Some, slice_get_within}
use Rattle.lp_driver.specs.Values.{Spanned, Value}
use Rattle.lp_machine.specs.ReductionSpan.{popped}
use Rattle.lp_core.specs.Datum.{Cell}
use Rattle.lp_core.specs.Reading.{cell_of}
use Rattle.lp_core.specs.Store.{Held, Slot}
use Rattle.lp_core.specs.Val.{Val, Plain}
use Rattle.lp_code_laws.proofs.Ends.Lists.{get_first}
use Rattle.lp_code_laws.proofs.Slots.Slots.{get_within}
use Rattle.lp_repr.proofs.Lists.{slice_get_right}
use Rattle.lp_ascent.specs.Slots.{Layout, count_of, optional_of, is_cell}
use Rattle.lp_back_end_laws.specs.Call.Frames.{IsSlot, by_value, full, taken, AreSlots, AreApart, IsCell, Owns, AreOwn, Emptied, comes_as_cell, is_before}
use Rattle.lp_back_end_laws.proofs.Call.FrameSlots.{content, cell_content, slot_value, is_in_cell}
use Rattle.lp_back_end_laws.proofs.Call.Layouts.{optional_cell, made_cell}
use Rattle.lp_back_end_laws.proofs.Call.Leaving.{leaving}

-- further cells change no slot
pub slot_grows : {cells : List Held} {x : Spanned Value} {cell held : Bool} {v : Val} (new : List Held) → IsSlot cells x cell held v → IsSlot (cells ++ new) x cell held v
slot_grows new by_value = by_value
slot_grows {cells} new (full n is) = full n (get_first cells new n is)
slot_grows {cells} new (taken n is) = taken n (get_first cells new n is)

-- where no slots are made optional, the cells are those that came so
came_so : (l : Layout) (j : ℕ) → l.made_optional ≡ false → comes_as_cell l j ≡ is_cell l j
came_so l j e = ap (λ b. b || comes_as_cell l j) (sym e)

-- the cells that came so are cells
came_first : (l : Layout) (j : ℕ) → j < optional_of l → comes_as_cell l j ≡ is_cell l j
came_first l j less = lt-ltb j (optional_of l) less ∙ sym (optional_cell l j less)

module _ {l : Layout} {triples : List (Spanned Value)} {slots own : List Val} {before new : List Held} (are : AreSlots l (comes_as_cell l) 0 triples before slots) (apart : AreApart slots) (owns : Owns l slots own before new) where
  -- a cell that came so has an old number, and is among the first slots
  old_number : (j m : ℕ) → IsCell slots j m → (m < length before) × (j < optional_of l)
  old_number j m is = let c = cell_content are j m is in (slice_get_within before m _ c.2, ltb-true j (optional_of l) c.1)

  made_at : (j : ℕ) (v : Val) → l.made_optional ≡ true → optional_of l ≤ j → slice_get own j ≡ Some v → (i : ℕ) × (optional_of l + i ≡ j) × (v ≡ Plain (Cell (length before + i))) × ((w : Val) → slice_get slots j ≡ Some w → slice_get new i ≡ Some (Slot (Some w)))
  made_at j v made le is =
      let i : ℕ = j - optional_of l in
      let e : optional_of l + i ≡ j = omega (arith, le) in
      let w = get_within slots j (omega (arith, slice_get_within own j v is, owns.as_many)) in
      (i, e, same_Some v (Plain (Cell (length before + i))) (sym is ∙ (owns.made i j w.0 made e w.1).0), λ u at. (owns.made i j u made e at).1)

  -- a slot is as it came, or it is made
  which : (j : ℕ) → ((l.made_optional ≡ false) ⊎ (j < optional_of l)) ⊎ ((l.made_optional ≡ true) × (optional_of l ≤ j))
  which j = by l.made_optional refl
    where
      by : (b : Bool) → l.made_optional ≡ b → ((l.made_optional ≡ false) ⊎ (j < optional_of l)) ⊎ ((l.made_optional ≡ true) × (optional_of l ≤ j))
      by false e = inl (inl e)
      by true e = ⊎_elim (λ (less : j < optional_of l). inl (inr less)) (λ (le : optional_of l ≤ j). inr (e, le)) (cases_lt j (optional_of l))

  own_number : (j m : ℕ) → IsCell own j m → IsCell slots j m ⊎ ((i : ℕ) × (optional_of l + i ≡ j) × (m ≡ length before + i))
  own_number j m is = ⊎_elim
      (λ (old : (l.made_optional ≡ false) ⊎ (j < optional_of l)). inl (sym (owns.old j old) ∙ is))
      (λ (new_one : (l.made_optional ≡ true) × (optional_of l ≤ j)). let w = made_at j (Plain (Cell m)) new_one.0 new_one.1 is in inr (w.0, w.1, same_Some m (length before + w.0) (ap cell_of w.2)))
      (which j)

  pub are_own : AreOwn (length before) slots own
  are_own = record {
    old = λ j m is. (old_number j m is).0;
    same = λ j m is. owns.old j (inr (old_number j m is).1) ∙ is;
    new = λ j m less is. ⊎_elim (λ (at : IsCell slots j m). at) (λ (w : (i : ℕ) × (optional_of l + i ≡ j) × (m ≡ length before + i)). absurd (omega (arith, less, w.2))) (own_number j m is);
  }

  pub own_apart : AreApart own
  own_apart i j n a b = ⊎_elim
      (λ (p : IsCell slots i n). ⊎_elim
      (λ (q : IsCell slots j n). apart i j n p q)
      (λ (q : (k : ℕ) × (optional_of l + k ≡ j) × (n ≡ length before + k)). absurd (omega (arith, (old_number i n p).0, q.2)))
      (own_number j n b))
      (λ (p : (k : ℕ) × (optional_of l + k ≡ i) × (n ≡ length before + k)). ⊎_elim
      (λ (q : IsCell slots j n). absurd (omega (arith, (old_number j n q).0, p.2)))
      (λ (q : (k : ℕ) × (optional_of l + k ≡ j) × (n ≡ length before + k)). omega (arith, p.1, p.2, q.1, q.2))
      (own_number j n b))
      (own_number i n a)

  own_slot : (j : ℕ) (x : Spanned Value) (v : Val) → slice_get (popped (count_of l) triples) j ≡ Some x → slice_get own j ≡ Some v → IsSlot (before ++ new) x (is_cell l j) (is_before l 0 j) v
  own_slot j x v at is = ⊎_elim
      (λ (old : (l.made_optional ≡ false) ⊎ (j < optional_of l)).
      let same : comes_as_cell l j ≡ is_cell l j = ⊎_elim (came_so l j) (came_first l j) old in
      subst (λ b. IsSlot (before ++ new) x b (is_before l 0 j) v) same (slot_grows new (are.each j x v at (sym (owns.old j old) ∙ is))))
      (λ (new_one : (l.made_optional ≡ true) × (optional_of l ≤ j)).
      let w = made_at j v new_one.0 new_one.1 is in
      let u = get_within slots j (omega (arith, slice_get_within own j v is, owns.as_many)) in
      let s = slot_value (are.each j x u.0 at u.1) (le-ltb j (optional_of l) new_one.1) in
      is_in_cell (is_cell l j) (is_before l 0 j) v (length before + w.0) (made_cell l j new_one.0) w.2
      (slice_get_right before new w.0 ∙ w.3 u.0 u.1 ∙ ap (λ o. Some (Slot (Some o))) s.1 ∙ ap (λ b. Some (content b x)) (sym s.0)))
      (which j)

  -- all are full
  pub own_are : AreSlots l (is_cell l) 0 triples (before ++ new) own
  own_are = record { count = owns.as_many ∙ are.count; fits = are.fits; each = own_slot }

  -- when the call is over, what was taken of them was taken of the slots that it was handed
  pub own_emptied : (d : ℕ) (after : List Held) → Emptied l d own (before ++ new) after → Emptied l d slots before (take (length before) after)
  own_emptied d after h = leaving l d slots own before new after are_own h
