-- Symbols that are taken out of a frame's cells.
use Rattle.std.proofs.Common.{◌≡◌, ◌⊎◌, ℕ, zero, suc, ◌+◌, ◌-◌, ◌<◌, ◌≤◌, Bool, true, false, cond, List, [], ◌∷◌, map, filter, length, take, drop, Some, None, slice_get, refl, sym, ap, ◌∙◌, subst, ⊎_elim, inl, inr, arith, length-append, length-drop, true≢false}
use Rattle.std.specs.List.{range_with_len}
use Rattle.std.specs.Prelude.{slice_set}
use Rattle.std.specs.Option.{option_map}
use Rattle.std.proofs.lemmas.Bool.{cases_eq, cases_lt, lt-ltb}
use Rattle.std.proofs.lemmas.List.{length-take-le, length-map}
use Rattle.std.proofs.lemmas.Option.{none-some, same_Some, slice_get-map}
use Rattle.lp_driver.specs.Values.{Spanned, Value}
use Rattle.lp_machine.specs.ReductionSpan.{popped}
use Rattle.lp_core.specs.Datum.{Cell}
use Rattle.lp_core.specs.Store.{Held, Slot}
use Rattle.lp_core.specs.Val.{Val, Plain}
use Rattle.lp_question_laws.specs.Tables.Acts.{symbol_val}
use Rattle.lp_code_laws.proofs.Ends.Lists.{get_same, get_other, slot_kept, length_set}
use Rattle.lp_code_laws.proofs.Slots.Slots.{get_within}
use Rattle.lp_repr.proofs.Lists.{slice_get_left, slice_get_past_left}
use Rattle.lp_ascent.specs.Slots.{Layout, count_of, is_cell}
use Rattle.lp_ascent.specs.CallLines.{cells_from}
use Rattle.lp_back_end_laws.specs.Call.Frames.{AreSlots, AreApart, IsCell, Emptied}
use Rattle.lp_back_end_laws.specs.Call.Handing.{TakenOut, with_values}
use Rattle.lp_back_end_laws.proofs.Call.Cells.{emptied}
use Rattle.lp_back_end_laws.proofs.Call.Cells as list
use Rattle.lp_back_end_laws.proofs.Call.FrameSlots.{cell_content, slot_within, slot_symbol, slot_number, content}
use Rattle.lp_back_end_laws.proofs.Call.Lookups.{get_taken, get_dropped}
use Rattle.lp_back_end_laws.proofs.Call.Transitions.{emptied_other}

-- ---- numbers of a range that pass a test
-- the first element is kept, or not
kept_or_not : (b : Bool) (a : ℕ) (ys : List ℕ) (i j : ℕ) → slice_get (cond b (a ∷ ys) ys) i ≡ Some j → ((b ≡ true) × (a ≡ j)) ⊎ ((k : ℕ) × (slice_get ys k ≡ Some j))
kept_or_not true a ys zero j e = inl (refl, same_Some a j e)
kept_or_not true a ys (suc i) j e = inr (i, e)
kept_or_not false a ys i j e = inr (i, e)

first_kept : (b : Bool) (a : ℕ) (ys : List ℕ) → b ≡ true → slice_get (cond b (a ∷ ys) ys) 0 ≡ Some a
first_kept true a ys e = refl
first_kept false a ys e = absurd (true≢false (sym e))

rest_kept : (b : Bool) (a : ℕ) (ys : List ℕ) (k j : ℕ) → slice_get ys k ≡ Some j → (i : ℕ) × (slice_get (cond b (a ∷ ys) ys) i ≡ Some j)
rest_kept true a ys k j e = (suc k, e)
rest_kept false a ys k j e = (k, e)

kept_apart : (cell : ℕ → ℕ) (b : Bool) (a : ℕ) (ys : List ℕ) → (b ≡ true → (i x : ℕ) → slice_get ys i ≡ Some x → (a ≡ x → ⊥) × (cell a ≡ cell x → ⊥)) → list.AreApart cell ys → list.AreApart cell (cond b (a ∷ ys) ys)
kept_apart cell true a ys differ rest = (differ refl, rest)
kept_apart cell false a ys differ rest = rest

module _ (p : ℕ → Bool) where
  pub passing : (a n i j : ℕ) → slice_get (filter p (range_with_len a n)) i ≡ Some j → (a ≤ j) × (j < a + n) × (p j ≡ true)
  passing a zero i j e = absurd (none-some j e)
  passing a (suc n) i j e = ⊎_elim
      (λ (h : (p a ≡ true) × (a ≡ j)). (omega (arith, h.1), omega (arith, h.1), subst (λ k. p k ≡ true) h.1 h.0))
      (λ (w : (k : ℕ) × (slice_get (filter p (range_with_len (a + 1) n)) k ≡ Some j)). let r = passing (a + 1) n w.0 j w.1 in (omega (arith, r.0), omega (arith, r.1), r.2))
      (kept_or_not (p a) a (filter p (range_with_len (a + 1) n)) i j e)

  pub passes : (a n j : ℕ) → a ≤ j → j < a + n → p j ≡ true → (i : ℕ) × (slice_get (filter p (range_with_len a n)) i ≡ Some j)
  passes a zero j le less is = absurd (omega (arith, le, less))
  passes a (suc n) j le less is = ⊎_elim
      (λ (e : a ≡ j). (0, first_kept (p a) a (filter p (range_with_len (a + 1) n)) (ap p e ∙ is) ∙ ap Some e))
      (λ (other : a ≡ j → ⊥).
      let more : a + 1 ≤ j = ⊎_elim (λ (less : a < j). omega (arith, less)) (λ (ge : j ≤ a). (let e : a ≡ j = omega (arith, ge, le) in absurd (other e))) (cases_lt a j) in
      let r = passes (a + 1) n j more (omega (arith, less)) is in
      rest_kept (p a) a (filter p (range_with_len (a + 1) n)) r.0 j r.1)
      (cases_eq a j)

  -- none comes twice, nor its cell where cells differ
  pub passing_apart : (cell : ℕ → ℕ) (a n : ℕ) → ((j x : ℕ) → p j ≡ true → p x ≡ true → j < a + n → x < a + n → cell j ≡ cell x → j ≡ x) → list.AreApart cell (filter p (range_with_len a n))
  passing_apart cell a zero differ = tt
  passing_apart cell a (suc n) differ =
      kept_apart cell (p a) a (filter p (range_with_len (a + 1) n))
      (λ is i x at.
      let r = passing (a + 1) n i x at in
      (λ e. omega (arith, r.0, e), λ e. let same = differ a x is r.2 (omega arith) (omega (arith, r.1)) e in omega (arith, r.0, same)))
      (passing_apart cell (a + 1) n (λ j x pj px lj lx e. differ j x pj px (omega (arith, lj)) (omega (arith, lx)) e))

-- ---- cells that are emptied
pub length_emptied : (cell : ℕ → ℕ) (js : List ℕ) (cells : List Held) → length (emptied cell js cells) ≡ length cells
length_emptied cell [] cells = refl
length_emptied cell (j ∷ js) cells = length_emptied cell js (slice_set cells (cell j) (Slot None)) ∙ length_set cells (cell j) (Slot None)

-- an empty cell stays so
stays_empty : (cell : ℕ → ℕ) (js : List ℕ) (cells : List Held) (n : ℕ) → slice_get cells n ≡ Some (Slot None) → slice_get (emptied cell js cells) n ≡ Some (Slot None)
stays_empty cell [] cells n is = is
stays_empty cell (j ∷ js) cells n is = stays_empty cell js (slice_set cells (cell j) (Slot None)) n (⊎_elim
    (λ (e : cell j ≡ n). subst (λ m. slice_get (slice_set cells (cell j) (Slot None)) m ≡ Some (Slot None)) e (get_same cells (cell j) (subst (λ m. slice_get cells m ≡ Some (Slot None)) (sym e) is)))
    (λ other. get_other cells (cell j) n (Slot None) other ∙ is)
    (cases_eq (cell j) n))

pub emptied_this : (cell : ℕ → ℕ) (js : List ℕ) (cells : List Held) (i j : ℕ) (old : Held) → slice_get js i ≡ Some j → slice_get cells (cell j) ≡ Some old → slice_get (emptied cell js cells) (cell j) ≡ Some (Slot None)
emptied_this cell [] cells i j old at is = absurd (none-some j at)
emptied_this cell (x ∷ js) cells zero j old at is =
    let same : x ≡ j = same_Some x j at in
    subst (λ k. slice_get (emptied cell js (slice_set cells (cell k) (Slot None))) (cell j) ≡ Some (Slot None)) (sym same) (stays_empty cell js (slice_set cells (cell j) (Slot None)) (cell j) (get_same cells (cell j) is))
emptied_this cell (x ∷ js) cells (suc i) j old at is =
    let k = slot_kept cells (cell x) (cell j) (Slot None) old is in
    emptied_this cell js (slice_set cells (cell x) (Slot None)) i j k.0 at k.1

-- ---- of a frame
module _ {l : Layout} {triples : List (Spanned Value)} {own : List Val} {before : List Held} (are : AreSlots l (is_cell l) 0 triples before own) (cell : ℕ → ℕ) (cells : (j n : ℕ) → IsCell own j n → cell j ≡ n) (first q : ℕ) (count : first + q ≡ count_of l) where
  -- a slot that is a cell is the one of its number, with its symbol
  pub own_cell : (j : ℕ) → j < count_of l → is_cell l j ≡ true → (x : Spanned Value) × (slice_get (popped (count_of l) triples) j ≡ Some x) × IsCell own j (cell j) × (slice_get before (cell j) ≡ Some (Slot (Some (symbol_val x))))
  own_cell j less is =
      let v = get_within own j (omega (arith, less, are.count)) in
      let x = slot_symbol are j less in
      let c = slot_number (are.each j x.0 v.0 x.1 v.1) is in
      let there : IsCell own j c.0 = v.1 ∙ ap Some c.1 in
      let e : c.0 ≡ cell j = sym (cells j c.0 there) in
      (x.0, x.1, subst (IsCell own j) e there, subst (λ n. slice_get before n ≡ Some (Slot (Some (symbol_val x.0)))) e (c.2 ∙ ap (λ b. Some (content b x.0)) (lt-ltb (j + 0) (count_of l) (omega (arith, less)))))

  -- those from a slot on
  pub cell_at : (i j : ℕ) → slice_get (cells_from l first) i ≡ Some j → (first ≤ j) × (j < count_of l) × (is_cell l j ≡ true)
  cell_at i j at = let r = passing (is_cell l) first (count_of l - first) i j at in (r.0, omega (arith, r.0, r.1), r.2)

  pub cells_apart : AreApart own → list.AreApart cell (cells_from l first)
  cells_apart apart = passing_apart (is_cell l) cell first (count_of l - first) (λ j x pj px lj lx e.
      let a = own_cell j (omega (arith, lj, count)) pj in
      let b = own_cell x (omega (arith, lx, count)) px in
      apart j x (cell j) a.2 (subst (IsCell own x) (sym e) b.2))

  -- what is taken out of the cells from a slot on
  pub cells_emptied : AreApart own → Emptied l q own before (emptied cell (cells_from l first) before)
  cells_emptied apart = record {
    as_many = length_emptied cell (cells_from l first) before;
    emptied = λ j n le is.
        let c = cell_content are j n is in
        let less = slot_within are j (Plain (Cell n)) is in
        let w = passes (is_cell l) first (count_of l - first) j (omega (arith, le, count)) (omega (arith, less, count)) c.1 in
        let there = own_cell j less c.1 in
        subst (λ m. slice_get (emptied cell (cells_from l first) before) m ≡ Some (Slot None)) (cells j n is) (emptied_this cell (cells_from l first) before w.0 j (Slot (Some (symbol_val there.0))) w.1 there.3);
    kept = λ n deep. emptied_other cell (cells_from l first) before n (λ i j at e.
        let r = cell_at i j at in
        let d = deep j (subst (IsCell own j) e (own_cell j r.1 r.2).2) in
        omega (arith, d, r.0, count));
  }

  -- and the values of all those slots
  pub taken_out : AreApart own → TakenOut l q triples own (with_values first own (popped (count_of l) triples)) before (emptied cell (cells_from l first) before)
  taken_out apart = record {
    as_many = omega (arith, length-append (take first own) (map symbol_val (drop first (popped (count_of l) triples))), first_many, rest_many, are.count, count);
    kept = λ j less. slice_get_left (take first own) (map symbol_val (drop first (popped (count_of l) triples))) j (omega (arith, less, count, first_many)) ∙ get_taken own first j (omega (arith, less, count));
    values = λ j x le at.
        slice_get_past_left (take first own) (map symbol_val (drop first (popped (count_of l) triples))) j (j - first) (omega (arith, le, count, first_many))
        ∙ slice_get-map symbol_val (drop first (popped (count_of l) triples)) (j - first)
        ∙ ap (option_map symbol_val) (get_dropped (popped (count_of l) triples) first (j - first) j (omega (arith, le, count)) ∙ at);
    cells = cells_emptied apart;
  }
    where
      first_many : length (take first own) ≡ first
      first_many = length-take-le first own (omega (arith, are.count, count))

      rest_many : length (map symbol_val (drop first (popped (count_of l) triples))) ≡ q
      rest_many = omega (arith, length-map (drop first (popped (count_of l) triples)) symbol_val, length-drop first (popped (count_of l) triples), length-drop (length triples - count_of l) triples, are.fits, count)
