-- The new cells of a frame, which get the next numbers.
use Rattle.std.proofs.Common.{◌≡◌, ◌⊎◌, ℕ, zero, suc, ◌+◌, ◌-◌, ◌<◌, Bool, true, false, List, ◌++◌, map, length, take, Some, slice_get, refl, sym, ap, ◌∙◌, ⊎_elim, arith, length-append, true≢false}
use Rattle.std.specs.List.{range_with_len}
use Rattle.std.specs.Option.{option_map}
use Rattle.std.proofs.lemmas.List.{length-take-le, length-map}
use Rattle.std.proofs.lemmas.List.FromFn.{length-range_with_len}
use Rattle.std.proofs.lemmas.Option.{slice_get_within, slice_get-map}
use Rattle.lp_repr.specs.declared.repr.Symbol.{Symbol}
use Rattle.lp_core.specs.Datum.{Cell}
use Rattle.lp_core.specs.Store.{Held, Slot}
use Rattle.lp_core.specs.Val.{Val, Plain}
use Rattle.lp_repr.proofs.Lists.{slice_get_left, slice_get_past_left}
use Rattle.lp_ascent.specs.Slots.{Layout, count_of, optional_of}
use Rattle.lp_ascent.specs.StateLines.{new_cells}
use Rattle.lp_back_end_laws.specs.Call.Frames.{IsCell, Owns, own_slots}
use Rattle.lp_back_end_laws.proofs.Call.Lookups.{get_taken}

pub range_at : (a n i j : ℕ) → i < n → a + i ≡ j → slice_get (range_with_len a n) i ≡ Some j
range_at a zero i j less e = absurd (omega arith)
range_at a (suc n) zero j less e = let same : a ≡ j = omega (arith, e) in ap Some same
range_at a (suc n) (suc i) j less e = range_at (a + 1) n i j (omega arith) (omega (arith, e))

owns_by : (symbols : List Symbol) (fixed : ℕ) (b : Bool) (slots : List Val) (before : List Held) (value : ℕ → Val)
    → (let l : Layout = record { symbols = symbols; fixed = fixed; made_optional = b } in length slots ≡ count_of l → ((j : ℕ) (v : Val) → slice_get slots j ≡ Some v → value j ≡ v)
    → Owns l slots (own_slots l (length before) slots) before (map (λ j. Slot (Some (value j))) (new_cells l)))
owns_by symbols fixed false slots before value many is = record { as_many = refl; old = λ j why. refl; made = λ i j v e. absurd (true≢false (sym e)) }
owns_by symbols fixed true slots before value many is = record { as_many = as_many; old = old; made = made }
  where
    l : Layout
    l = record { symbols = symbols; fixed = fixed; made_optional = true }

    new : List Val
    new = map (λ i. Plain (Cell (length before + i))) (range_with_len 0 (count_of l - optional_of l))

    front : length (take (optional_of l) slots) ≡ optional_of l
    front = length-take-le (optional_of l) slots (omega (arith, many))

    as_many : length (take (optional_of l) slots ++ new) ≡ length slots
    as_many = omega (arith, length-append (take (optional_of l) slots) new, front, length-map (range_with_len 0 (count_of l - optional_of l)) (λ i. Plain (Cell (length before + i))), length-range_with_len 0 (count_of l - optional_of l), many)

    old : (j : ℕ) → (true ≡ false) ⊎ (j < optional_of l) → slice_get (take (optional_of l) slots ++ new) j ≡ slice_get slots j
    old j why = ⊎_elim (λ (e : true ≡ false). absurd (true≢false e)) (λ (less : j < optional_of l). slice_get_left (take (optional_of l) slots) new j (omega (arith, less, front)) ∙ get_taken slots (optional_of l) j less) why

    made : (i j : ℕ) (v : Val) → true ≡ true → optional_of l + i ≡ j → slice_get slots j ≡ Some v → IsCell (take (optional_of l) slots ++ new) j (length before + i) × (slice_get (map (λ j. Slot (Some (value j))) (range_with_len (optional_of l) (count_of l - optional_of l))) i ≡ Some (Slot (Some v)))
    made i j v here e at =
        let less : i < count_of l - optional_of l = omega (arith, slice_get_within slots j v at, many, e) in (
          slice_get_past_left (take (optional_of l) slots) new j i (omega (arith, e, front))
              ∙ slice_get-map (λ i. Plain (Cell (length before + i))) (range_with_len 0 (count_of l - optional_of l)) i
              ∙ ap (option_map (λ i. Plain (Cell (length before + i)))) (range_at 0 (count_of l - optional_of l) i i less (omega arith)),
          slice_get-map (λ j. Slot (Some (value j))) (range_with_len (optional_of l) (count_of l - optional_of l)) i
              ∙ ap (option_map (λ j. Slot (Some (value j)))) (range_at (optional_of l) (count_of l - optional_of l) i j less e)
              ∙ ap (λ u. Some (Slot (Some u))) (is j v at),
        )

-- a frame owns its slots over the cells that its lines make
pub owns : (l : Layout) (slots : List Val) (before : List Held) (value : ℕ → Val) → length slots ≡ count_of l → ((j : ℕ) (v : Val) → slice_get slots j ≡ Some v → value j ≡ v)
    → Owns l slots (own_slots l (length before) slots) before (map (λ j. Slot (Some (value j))) (new_cells l))
owns l slots before value many is = owns_by l.symbols l.fixed l.made_optional slots before value many is
