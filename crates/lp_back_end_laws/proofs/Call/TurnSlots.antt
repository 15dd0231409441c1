-- A frame's own slots in a turn of its loop over gotos.
use Rattle.std.proofs.Common.{◌≡◌, ℕ, ◌+◌, ◌<◌, ◌≤◌, Bool, true, false, List, Some, None, slice_get, refl, ap, ◌∙◌, arith, true≢false}
use Rattle.std.proofs.lemmas.Bool.{lt-ltb, le-ltb}
use Rattle.lp_driver.specs.Values.{Spanned, Value}
use Rattle.lp_core.specs.Datum.{Cell}
use Rattle.lp_core.specs.Store.{Held, Slot}
use Rattle.lp_core.specs.Val.{Val, Plain}
use Rattle.lp_question_laws.specs.Tables.Acts.{symbol_val}
use Rattle.lp_code_laws.proofs.Slots.Slots.{get_within}
use Rattle.lp_ascent.specs.Slots.{Layout, count_of}
use Rattle.lp_back_end_laws.specs.Call.Frames.{IsSlot, by_value, full, taken, AreSlots, IsCell, Emptied}
use Rattle.lp_back_end_laws.proofs.Call.FrameSlots.{content, cell_content, slot_symbol, slot_number}

-- what was emptied, and more then
pub emptied_both : {l : Layout} {d e : ℕ} {slots : List Val} {a b c : List Held} → Emptied l d slots a b → Emptied l e slots b c → d ≤ e → Emptied l e slots a c
emptied_both h g le = record {
  as_many = g.as_many ∙ h.as_many;
  emptied = g.emptied;
  kept = λ n deep. g.kept n deep ∙ h.kept n (λ j is. let less = deep j is in omega (arith, less, le));
}

-- what has been taken needs no emptying
pub emptied_already : {l : Layout} {cell : ℕ → Bool} {d : ℕ} {triples : List (Spanned Value)} {cells : List Held} {slots : List Val} → AreSlots l cell d triples cells slots → Emptied l d slots cells cells
emptied_already {l} {d = d} are = record {
  as_many = refl;
  emptied = λ j n le is. let c = cell_content are j n is in c.2 ∙ ap (λ b. Some (content b c.0)) (le-ltb (j + d) (count_of l) le);
  kept = λ n deep. refl;
}

-- a slot from which the symbol was taken is a cell
taken_cell : {cells : List Held} {x : Spanned Value} {cell held : Bool} {v : Val} → IsSlot cells x cell held v → held ≡ false → (cell ≡ true) × (n : ℕ) × (v ≡ Plain (Cell n)) × (slice_get cells n ≡ Some (Slot None))
taken_cell by_value e = absurd (true≢false e)
taken_cell (full n is) e = absurd (true≢false e)
taken_cell (taken n is) e = (refl, n, refl, is)

module _ {l : Layout} {cell : ℕ → Bool} {d : ℕ} {triples : List (Spanned Value)} {cells : List Held} {slots : List Val} (are : AreSlots l cell d triples cells slots) (top : ℕ) (last : top + 1 ≡ count_of l) where
  -- where slots were taken, the top one is an empty cell
  pub top_taken : 0 < d → (cell top ≡ true) × (n : ℕ) × IsCell slots top n × (slice_get cells n ≡ Some (Slot None))
  top_taken some =
      let v = get_within slots top (omega (arith, last, are.count)) in
      let x = slot_symbol are top (omega (arith, last)) in
      let c = taken_cell (are.each top x.0 v.0 x.1 v.1) (le-ltb (top + d) (count_of l) (omega (arith, last, some))) in
      (c.0, c.1, v.1 ∙ ap Some c.2, c.3)

  -- where none was, a top cell is full
  pub top_full : d ≡ 0 → cell top ≡ true → (x : Spanned Value) × (n : ℕ) × IsCell slots top n × (slice_get cells n ≡ Some (Slot (Some (symbol_val x))))
  top_full none is_one =
      let v = get_within slots top (omega (arith, last, are.count)) in
      let x = slot_symbol are top (omega (arith, last)) in
      let c = slot_number (are.each top x.0 v.0 x.1 v.1) is_one in
      (x.0, c.0, v.1 ∙ ap Some c.1, c.2 ∙ ap (λ b. Some (content b x.0)) (lt-ltb (top + d) (count_of l) (omega (arith, last, none))))
