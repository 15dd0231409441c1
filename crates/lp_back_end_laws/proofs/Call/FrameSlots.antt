-- What is known of one slot of a frame.
use Rattle.std.proofs.Common.{◌≡◌, ℕ, ◌-◌, ◌<◌, Bool, true, false, List, length, Some, None, slice_get, refl, sym, ap, subst, arith, true≢false, length-drop}
use Rattle.std.specs.Prelude.{if◌then◌else◌}
use Rattle.std.proofs.lemmas.Option.{none-some, same_Some, slice_get_within}
use Rattle.lp_driver.specs.Values.{Spanned, Value}
use Rattle.lp_machine.specs.ReductionSpan.{popped}
use Rattle.lp_core.specs.Datum.{Cell}
use Rattle.lp_core.specs.Reading.{cell_of}
use Rattle.lp_core.specs.Store.{Held, Slot}
use Rattle.lp_core.specs.Val.{Val, Plain}
use Rattle.lp_question_laws.specs.Tables.Acts.{symbol_val}
use Rattle.lp_code_laws.proofs.Slots.Slots.{get_within}
use Rattle.lp_ascent.specs.Slots.{Layout, count_of}
use Rattle.lp_back_end_laws.specs.Call.Frames.{IsSlot, by_value, full, taken, AreSlots, IsCell, is_before}

-- what a cell of a slot holds: the symbol, or nothing
abbrev pub content : Bool → Spanned Value → Held
content held x = Slot (if held then Some (symbol_val x) else None)

module _ {cells : List Held} {x : Spanned Value} where
  -- a slot that is a cell holds the symbol in it, or nothing
  pub slot_cell : {cell held : Bool} {v : Val} → IsSlot cells x cell held v → (n : ℕ) → v ≡ Plain (Cell n) → (cell ≡ true) × (slice_get cells n ≡ Some (content held x))
  slot_cell by_value n e = absurd (none-some n (ap cell_of e))
  slot_cell (full m is) n e = let same : m ≡ n = same_Some m n (ap cell_of e) in (refl, subst (λ i. slice_get cells i ≡ Some (Slot (Some (symbol_val x)))) same is)
  slot_cell (taken m is) n e = let same : m ≡ n = same_Some m n (ap cell_of e) in (refl, subst (λ i. slice_get cells i ≡ Some (Slot None)) same is)

  -- one that is none is the symbol
  pub slot_value : {cell held : Bool} {v : Val} → IsSlot cells x cell held v → cell ≡ false → (held ≡ true) × (v ≡ symbol_val x)
  slot_value by_value e = (refl, refl)
  slot_value (full m is) e = absurd (true≢false e)
  slot_value (taken m is) e = absurd (true≢false e)

  -- and one that is has a cell
  pub slot_number : {cell held : Bool} {v : Val} → IsSlot cells x cell held v → cell ≡ true → (n : ℕ) × (v ≡ Plain (Cell n)) × (slice_get cells n ≡ Some (content held x))
  slot_number by_value e = absurd (true≢false (sym e))
  slot_number (full n is) e = (n, refl, is)
  slot_number (taken n is) e = (n, refl, is)

  pub is_value : (cell held : Bool) (v : Val) → cell ≡ false → held ≡ true → v ≡ symbol_val x → IsSlot cells x cell held v
  is_value true held v other h e = absurd (true≢false other)
  is_value false false v other h e = absurd (true≢false (sym h))
  is_value false true v other h e = subst (IsSlot cells x false true) (sym e) by_value

  pub is_in_cell : (cell held : Bool) (v : Val) (n : ℕ) → cell ≡ true → v ≡ Plain (Cell n) → slice_get cells n ≡ Some (content held x) → IsSlot cells x cell held v
  is_in_cell false held v n other e is = absurd (true≢false (sym other))
  is_in_cell true true v n c e is = subst (IsSlot cells x true true) (sym e) (full n is)
  is_in_cell true false v n c e is = subst (IsSlot cells x true false) (sym e) (taken n is)

module _ {l : Layout} {cell : ℕ → Bool} {d : ℕ} {triples : List (Spanned Value)} {cells : List Held} {slots : List Val} (are : AreSlots l cell d triples cells slots) where
  -- a slot is one of so many, and has a symbol
  pub slot_within : (j : ℕ) (v : Val) → slice_get slots j ≡ Some v → j < count_of l
  slot_within j v is = omega (arith, slice_get_within slots j v is, are.count)

  pub slot_symbol : (j : ℕ) → j < count_of l → (x : Spanned Value) × (slice_get (popped (count_of l) triples) j ≡ Some x)
  slot_symbol j less = get_within (popped (count_of l) triples) j (omega (arith, are.fits, length-drop (length triples - count_of l) triples))

  -- a cell of a slot holds a symbol, or nothing
  pub cell_content : (j n : ℕ) → IsCell slots j n → (x : Spanned Value) × (cell j ≡ true) × (slice_get cells n ≡ Some (content (is_before l d j) x))
  cell_content j n is =
      let s = slot_symbol j (slot_within j (Plain (Cell n)) is) in
      let c = slot_cell (are.each j s.0 (Plain (Cell n)) s.1 is) n refl in
      (s.0, c.0, c.1)
