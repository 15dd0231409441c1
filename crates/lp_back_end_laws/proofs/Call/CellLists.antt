-- The slots that are cells, from one on: which they are, that none comes twice, and what emptying their cells does.
use Rattle.std.proofs.Common.{◌≡◌, ℕ, zero, suc, ◌+◌, ◌-◌, ◌<◌, ◌≤◌, Bool, true, false, List, [], ◌∷◌, length, Some, None, refl, sym, ap, ◌∙◌, subst, arith, ltb}
use Rattle.std.specs.Prelude.{slice_get, slice_set, filter, if◌then◌else◌}
use Rattle.std.specs.List.{range_with_len}
use Rattle.std.specs.Option.{option_and_then, unwrap_or}
use Rattle.std.proofs.lemmas.Bool.Decides.{nat_tests}
use Rattle.lp_core.specs.Val.{Val}
use Rattle.lp_core.specs.Reading.{cell_of}
use Rattle.lp_core.specs.Store.{Held, Slot}
use Rattle.lp_ascent.specs.Slots.{Layout, count_of, is_cell}
use Rattle.lp_ascent.specs.CallLines.{cells_from}
use Rattle.lp_code_laws.proofs.Ends.Lists.{get_same, get_other, length_set}
use Rattle.lp_back_end_laws.specs.Call.Frames.{IsCell, Emptied}
use Rattle.lp_back_end_laws.specs.Call.Frames as frames
use Rattle.lp_back_end_laws.proofs.Call.Cells.{emptied, AreApart}
use Rattle.lp_back_end_laws.proofs.Call.Transitions.{emptied_other}

module _ (f : ℕ → Bool) where
  -- numbers of a range that pass: the first of them, and the others
  passing_if : (xs : List ℕ) (a n j : ℕ) (b : Bool) → f a ≡ b → ((i : ℕ) → slice_get xs i ≡ Some j → (a + 1 ≤ j) × (j < (a + 1) + n) × (f j ≡ true)) → (i : ℕ) → slice_get (if b then a ∷ xs else xs) i ≡ Some j → (a ≤ j) × (j < a + suc n) × (f j ≡ true)
  passing_if xs a n j true is rest zero at = let same : a ≡ j = cc in (omega (arith, same), omega (arith, same), ap f (sym same) ∙ is)
  passing_if xs a n j true is rest (suc i) at = let r = rest i at in (omega (arith, r.0), omega (arith, r.1), r.2)
  passing_if xs a n j false is rest i at = let r = rest i at in (omega (arith, r.0), omega (arith, r.1), r.2)

  passing : (n a i j : ℕ) → slice_get (filter f (range_with_len a n)) i ≡ Some j → (a ≤ j) × (j < a + n) × (f j ≡ true)
  passing zero a i j at = absurd cc
  passing (suc n) a i j at = passing_if (filter f (range_with_len (a + 1) n)) a n j (f a) refl (λ i at. passing n (a + 1) i j at) i at

  -- a number of the range that passes is among them
  skip_if : (xs : List ℕ) (a j : ℕ) (b : Bool) → (i : ℕ) × (slice_get xs i ≡ Some j) → (i : ℕ) × (slice_get (if b then a ∷ xs else xs) i ≡ Some j)
  skip_if xs a j true h = (suc h.0, h.1)
  skip_if xs a j false h = h

  first_if : (xs : List ℕ) (a : ℕ) (b : Bool) → b ≡ true → slice_get (if b then a ∷ xs else xs) 0 ≡ Some a
  first_if xs a true is = refl
  first_if xs a false is = cc

  among : (n a j : ℕ) → a ≤ j → j < a + n → f j ≡ true → (i : ℕ) × (slice_get (filter f (range_with_len a n)) i ≡ Some j)
  among zero a j low high is = absurd (omega (arith, low, high))
  among (suc n) a j low high is = by (ltb a j) refl (λ more. among n (a + 1) j more (omega (arith, high)) is)
    where
      by : (b : Bool) → ltb a j ≡ b → (a + 1 ≤ j → (i : ℕ) × (slice_get (filter f (range_with_len (a + 1) n)) i ≡ Some j)) → (i : ℕ) × (slice_get (filter f (range_with_len a (suc n))) i ≡ Some j)
      by true less rest = let more : a + 1 ≤ j = grind (arith, nat_tests) in skip_if (filter f (range_with_len (a + 1) n)) a j (f a) (rest more)
      by false less rest =
          let same : a ≡ j = grind (arith, nat_tests) in
          (0, first_if (filter f (range_with_len (a + 1) n)) a (f a) (ap f same ∙ is) ∙ ap Some same)

  module _ (cell : ℕ → ℕ) where
    apart_if : (xs : List ℕ) (a : ℕ) (b : Bool) → f a ≡ b → AreApart cell xs → ((i x : ℕ) → slice_get xs i ≡ Some x → f a ≡ true → (a ≡ x → ⊥) × (cell a ≡ cell x → ⊥)) → AreApart cell (if b then a ∷ xs else xs)
    apart_if xs a true is rest other = (λ i x at. other i x at is, rest)
    apart_if xs a false is rest other = rest

    module _ (most : ℕ) (apart : (i j : ℕ) → i < most → j < most → f i ≡ true → f j ≡ true → cell i ≡ cell j → i ≡ j) where
      passing_apart : (n a : ℕ) → a + n ≤ most → AreApart cell (filter f (range_with_len a n))
      passing_apart zero a small = tt
      passing_apart (suc n) a small =
          apart_if (filter f (range_with_len (a + 1) n)) a (f a) refl (passing_apart n (a + 1) (omega (arith, small)))
          (λ i x at is.
          let r = passing n (a + 1) i x at in
          (λ e. omega (arith, e, r.0), λ e. (let same = apart a x (omega (arith, small)) (omega (arith, small, r.1)) is r.2 e in omega (arith, same, r.0))))

-- the cells of a layout from a slot on
pub cells_within : (l : Layout) (first i j : ℕ) → first ≤ count_of l → slice_get (cells_from l first) i ≡ Some j → (first ≤ j) × (j < count_of l) × (is_cell l j ≡ true)
cells_within l first i j le at = let r = passing (is_cell l) (count_of l - first) first i j at in (r.0, omega (arith, le, r.1), r.2)

pub cell_among : (l : Layout) (first j : ℕ) → first ≤ j → j < count_of l → is_cell l j ≡ true → (i : ℕ) × (slice_get (cells_from l first) i ≡ Some j)
cell_among l first j low high is = among (is_cell l) (count_of l - first) first j low (omega (arith, low, high)) is

pub cells_apart : (l : Layout) (first : ℕ) (cell : ℕ → ℕ) → first ≤ count_of l → ((i j : ℕ) → i < count_of l → j < count_of l → is_cell l i ≡ true → is_cell l j ≡ true → cell i ≡ cell j → i ≡ j) → AreApart cell (cells_from l first)
cells_apart l first cell le apart = passing_apart (is_cell l) cell (count_of l) apart (count_of l - first) first (omega (arith, le))

-- as many cells are there, and those of the slots are empty
pub emptied_length : (cell : ℕ → ℕ) (js : List ℕ) (cells : List Held) → length (emptied cell js cells) ≡ length cells
emptied_length cell [] cells = refl
emptied_length cell (j ∷ js) cells = emptied_length cell js (slice_set cells (cell j) (Slot None)) ∙ length_set cells (cell j) (Slot None)

pub emptied_there : (cell : ℕ → ℕ) (js : List ℕ) (cells : List Held) → AreApart cell js → (i j : ℕ) (old : Held) → slice_get js i ≡ Some j → slice_get cells (cell j) ≡ Some old → slice_get (emptied cell js cells) (cell j) ≡ Some (Slot None)
emptied_there cell [] cells apart i j old at there = absurd cc
emptied_there cell (x ∷ js) cells apart zero j old at there =
    let same : x ≡ j = cc in
    let here : slice_get cells (cell x) ≡ Some old = ap (λ (y : ℕ). slice_get cells (cell y)) same ∙ there in
    subst (λ (y : ℕ). slice_get (emptied cell js (slice_set cells (cell x) (Slot None))) (cell y) ≡ Some (Slot None)) same
    (emptied_other cell js (slice_set cells (cell x) (Slot None)) (cell x) (λ i y at e. (apart.0 i y at).1 (sym e)) ∙ get_same cells (cell x) here)
emptied_there cell (x ∷ js) cells apart (suc i) j old at there =
    emptied_there cell js (slice_set cells (cell x) (Slot None)) apart.1 i j old at (get_other cells (cell x) (cell j) (Slot None) (apart.0 i j at).1 ∙ there)

-- ---- the cells of a frame's own slots
-- the number of the cell in a slot
abbrev pub cell_number : List Val → ℕ → ℕ
cell_number own j = unwrap_or (option_and_then cell_of (slice_get own j)) 0

module _ (l : Layout) (q : ℕ) (own : List Val) (cells : List Held) (fits : q ≤ count_of l) (apart : frames.AreApart own)
    (each : (j : ℕ) → j < count_of l → is_cell l j ≡ true → (n : ℕ) × (IsCell own j n)) (only : (j n : ℕ) → IsCell own j n → (j < count_of l) × (is_cell l j ≡ true) × ((old : Held) × (slice_get cells n ≡ Some old))) where
  abbrev pub last_cells : List ℕ
  last_cells = cells_from l (count_of l - q)

  numbers_apart : (i j : ℕ) → i < count_of l → j < count_of l → is_cell l i ≡ true → is_cell l j ≡ true → cell_number own i ≡ cell_number own j → i ≡ j
  numbers_apart i j a b ci cj same =
      let x = each i a ci in
      let y = each j b cj in
      let nx : cell_number own i ≡ x.0 = ap (λ o. unwrap_or (option_and_then cell_of o) 0) x.1 in
      let ny : cell_number own j ≡ y.0 = ap (λ o. unwrap_or (option_and_then cell_of o) 0) y.1 in
      let one : x.0 ≡ y.0 = sym nx ∙ same ∙ ny in
      apart i j y.0 (subst (λ (n : ℕ). IsCell own i n) one x.1) y.1

  -- taking out the cells among the last q slots empties exactly these
  pub last_apart : AreApart (cell_number own) last_cells
  last_apart = cells_apart l (count_of l - q) (cell_number own) (omega arith) numbers_apart

  pub last_emptied : Emptied l q own cells (emptied (cell_number own) last_cells cells)
  last_emptied = record {
    as_many = emptied_length (cell_number own) last_cells cells;
    emptied = λ j n le is.
        let o = only j n is in
        let m = cell_among l (count_of l - q) j (omega (arith, le)) o.0 o.1 in
        let nj : cell_number own j ≡ n = ap (λ o. unwrap_or (option_and_then cell_of o) 0) is in
        ap (slice_get (emptied (cell_number own) last_cells cells)) (sym nj) ∙ emptied_there (cell_number own) last_cells cells last_apart m.0 j o.2.0 m.1 (ap (slice_get cells) nj ∙ o.2.1);
    kept = λ n others. emptied_other (cell_number own) last_cells cells n
        (λ i j at e.
        let w = cells_within l (count_of l - q) i j (omega arith) at in
        let x = each j w.1 w.2 in
        let nx : cell_number own j ≡ x.0 = ap (λ o. unwrap_or (option_and_then cell_of o) 0) x.1 in
        let less = others j (subst (λ (n : ℕ). IsCell own j n) (sym nx ∙ e) x.1) in
        omega (arith, less, w.0));
  }
