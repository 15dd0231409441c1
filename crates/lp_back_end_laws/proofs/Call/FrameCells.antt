-- The lines that put a frame's slots by value into new cells: its names then hold its own slots.
use Rattle.std.proofs.Common.{◌≡◌, ◌⊎◌, ℕ, zero, suc, ◌+◌, ◌-◌, ◌<◌, ◌≤◌, ◌^◌, Bool, true, false, List, [], ◌∷◌, ◌++◌, length, map, Option, Some, slice_get, refl, sym, ap, ◌∙◌, subst, ⊎_elim, inl, inr, arith, codes, decimal, true≢false}
use Rattle.std.specs.Prelude.{if◌then◌else◌}
use Rattle.std.specs.List.{range_with_len}
use Rattle.std.specs.Option.{unwrap_or}
use Rattle.std.specs.Str.{bytes_eq}
use Rattle.std.proofs.lemmas.Bool.{cases_lt, le-ltb}
use Rattle.std.proofs.lemmas.List.FromFn.{length-range_with_len}
use Rattle.std.proofs.lemmas.Option.{same_Some, slice_get_within}
use Rattle.lp_driver.specs.Values.{Spanned, Value}
use Rattle.lp_core.specs.Datum.{Cell, Unset}
use Rattle.lp_core.specs.Effect.{set_value}
use Rattle.lp_core.specs.Store.{Program, Held, Slot}
use Rattle.lp_core.specs.Val.{Val, Plain}
use Rattle.lp_maker.specs.Slots.{Names}
use Rattle.lp_bodies.specs.Lines.{Lines}
use Rattle.lp_ascent.specs.Slots.{Layout, count_of, optional_of}
use Rattle.lp_ascent.specs.StateLines.{new_cells}
use Rattle.lp_code_laws.specs.Ends.Ends.{Moment}
use Rattle.lp_code_laws.specs.Slots.Shows.{Shows, HasRoom, Keeps}
use Rattle.lp_code_laws.proofs.Slots.Slots.{get_within}
use Rattle.lp_code_laws.specs.Printed.Ran.{Ran}
use Rattle.lp_question_laws.specs.Reductions.Arguments.{ShowAll}
use Rattle.lp_question_laws.specs.Reductions.Outer.{sym_name}
use Rattle.lp_question_laws.proofs.Reductions.Popping.{sym_apart}
use Rattle.lp_back_end_laws.specs.Call.Frames.{AreSlots, Owns, own_slots, comes_as_cell}
use Rattle.lp_back_end_laws.specs.Call.Turns.{ShowsFrame}
use Rattle.lp_back_end_laws.proofs.Call.Cells.{IsNone, AreApart, AreValues, Let, all_new, others_shown, over_cells, slot_lines}
use Rattle.lp_back_end_laws.proofs.Call.FrameSlots.{slot_symbol, slot_value, slot_within}
use Rattle.lp_back_end_laws.proofs.Call.NewCells.{owns, range_at}

-- ---- the numbers of new cells
range_is : (a n i j : ℕ) → slice_get (range_with_len a n) i ≡ Some j → (a + i ≡ j) × (i < n)
range_is a zero i j at = absurd cc
range_is a (suc n) zero j at = (let same : a ≡ j = cc in (omega (arith, same), omega arith))
range_is a (suc n) (suc i) j at = (let r = range_is (a + 1) n i j at in (omega (arith, r.0), omega (arith, r.1)))

ranged_apart : (a n : ℕ) → AreApart (λ j. j) (range_with_len a n)
ranged_apart a zero = tt
ranged_apart a (suc n) = ((λ i x at. (let r = range_is (a + 1) n i x at in ((λ e. omega (arith, r.0, e)), (λ e. omega (arith, r.0, e))))), ranged_apart (a + 1) n)

new_apart : (l : Layout) → AreApart (λ j. j) (new_cells l)
new_apart l = by l.made_optional
  where
    by : (b : Bool) → AreApart (λ j. j) (if b then range_with_len (optional_of l) (count_of l - optional_of l) else [])
    by true = ranged_apart (optional_of l) (count_of l - optional_of l)
    by false = tt

new_at : (l : Layout) (i j : ℕ) → slice_get (new_cells l) i ≡ Some j → (l.made_optional ≡ true) × (optional_of l + i ≡ j) × (j < count_of l)
new_at l i j = by l.made_optional refl
  where
    by : (b : Bool) → l.made_optional ≡ b → slice_get (if b then range_with_len (optional_of l) (count_of l - optional_of l) else []) i ≡ Some j → (l.made_optional ≡ true) × (optional_of l + i ≡ j) × (j < count_of l)
    by true e at = (let r = range_is (optional_of l) (count_of l - optional_of l) i j at in (e, r.0, omega (arith, r.0, r.1)))
    by false e at = absurd cc

new_there : (l : Layout) (i j : ℕ) → l.made_optional ≡ true → optional_of l + i ≡ j → j < count_of l → slice_get (new_cells l) i ≡ Some j
new_there l i j made is less =
    ap (λ (b : Bool). slice_get (if b then range_with_len (optional_of l) (count_of l - optional_of l) else []) i) made ∙ range_at (optional_of l) (count_of l - optional_of l) i j (omega (arith, is, less)) is

pub new_many : (l : Layout) → length (new_cells l) ≤ count_of l
new_many l = by l.made_optional
  where
    by : (b : Bool) → length (if b then range_with_len (optional_of l) (count_of l - optional_of l) else []) ≤ count_of l
    by true = omega (arith, length-range_with_len (optional_of l) (count_of l - optional_of l))
    by false = omega arith

-- a name that is no symbol's is none of theirs
is_none : (js : List ℕ) (key : List ℕ) → ((i : ℕ) → bytes_eq (sym_name i) key ≡ false) → IsNone js key
is_none [] key h = tt
is_none (j ∷ js) key h = (h j, is_none js key h)

none_among : (js : List ℕ) (k : ℕ) → k < 2 ^ 64 → ((i j : ℕ) → slice_get js i ≡ Some j → (j < 2 ^ 64) × (j ≡ k → ⊥)) → IsNone js (sym_name k)
none_among [] k small h = tt
none_among (j ∷ js) k small h = (let f = h 0 j refl in (sym_apart j k f.0 small f.1, none_among js k small (λ i x at. h (suc i) x at)))

-- parameters bear no symbol's name
abbrev pub NoSymbols : List (List ℕ) → Type 0
NoSymbols [] = Unit {0}
NoSymbols (q ∷ qs) = ((i : ℕ) → bytes_eq (sym_name i) q ≡ false) × NoSymbols qs

-- names that show the same under other names show all
pub all_shown : {names later : Names} {env after : List Val} (P : List ℕ → Type 0) (qs : List (List ℕ)) (vs : List Val) → ((i : ℕ) (q : List ℕ) → slice_get qs i ≡ Some q → P q) → ((q : List ℕ) (v : Val) → P q → Shows names env q v → Shows later after q v) → ShowAll names env qs vs → ShowAll later after qs vs
all_shown P [] [] h g s = tt
all_shown P [] (v ∷ vs) h g s = absurd s
all_shown P (q ∷ qs) [] h g s = absurd s
all_shown P (q ∷ qs) (v ∷ vs) h g s = (g q v (h 0 q refl) s.0, s.1, all_shown P qs vs (λ i r at. h (suc i) r at) g s.2)

-- the value that a slot holds, and the cells that are made of those by value
abbrev pub value_in : List Val → ℕ → Val
value_in slots j = unwrap_or (slice_get slots j) (Plain Unset)

abbrev pub new_ones : Layout → List Val → List Held
new_ones l slots = map (λ j. Slot (Some (value_in slots j))) (new_cells l)

value_is : (slots : List Val) (j : ℕ) (v : Val) → slice_get slots j ≡ Some v → value_in slots j ≡ v
value_is slots j v at = ap (λ (o : Option Val). unwrap_or o (Plain Unset)) at

module _ (p : Program) (l : Layout) (small : count_of l < 2 ^ 64) (keys : List (List ℕ)) (apart : (i : ℕ) (q : List ℕ) → slice_get keys i ≡ Some q → (k : ℕ) → bytes_eq (sym_name k) q ≡ false) (given : List Val) (list : ℕ) (slots : List Val) (triples : List (Spanned Value)) (start : Moment) where
  -- the names that show the frame show it over its own slots
  pub record CellsLet (ln : Lines) (m : Moment) (k : ℕ) (look : Val) (look_slot : ℕ) : Type 0 where
    pub env : List Val
    pub ran : Ran p (slot_lines (new_cells l) ln) start k (over_cells env (m.store.cells ++ new_ones l slots) m)
    pub next : (slot_lines (new_cells l) ln).names.next ≡ ln.names.next + length (new_cells l)
    pub keeps : Keeps ln.names.next m.store.env env
    pub shown : ShowsFrame (slot_lines (new_cells l) ln).names env keys given list (own_slots l (length m.store.cells) slots)
    pub look_shown : Shows (slot_lines (new_cells l) ln).names env (codes "~lookahead") look
    pub same_slot : look_shown.slot ≡ look_slot
    pub owned : Owns l slots (own_slots l (length m.store.cells) slots) m.store.cells (new_ones l slots)

  pub cells_let : (ln : Lines) (m : Moment) (k : ℕ) (look : Val) → Ran p ln start k m → HasRoom (length (new_cells l)) ln.names m.store.env → AreSlots l (comes_as_cell l) 0 triples m.store.cells slots → ShowsFrame ln.names m.store.env keys given list slots → (h : Shows ln.names m.store.env (codes "~lookahead") look)
      → CellsLet ln m k look h.slot
  cells_let ln m k look ran room are shown looks = record {
    env = t.env;
    ran = subst (λ (j : ℕ). Ran p (slot_lines (new_cells l) ln) start j (over_cells t.env (m.store.cells ++ new_ones l slots) m)) t.counted t.ran;
    next = t.next;
    keeps = t.keeps;
    shown = record {
      parameters = all_shown (λ q. (i : ℕ) → bytes_eq (sym_name i) q ≡ false) keys given (λ i q at. apart i q at) (λ q v none s. others_shown t q v (is_none (new_cells l) q none) s) shown.parameters;
      tokens = others_shown t (codes "~tokens") _ (is_none (new_cells l) (codes "~tokens") (λ i. refl)) shown.tokens;
      states = others_shown t (codes "~states") _ (is_none (new_cells l) (codes "~states") (λ i. refl)) shown.states;
      slots = slot_now;
    };
    look_shown = record { slot = looks.slot; is = t.known (codes "~lookahead") no_look ∙ looks.is; below = omega (arith, looks.below, t.next); held = t.keeps.same looks.slot looks.below ∙ looks.held };
    same_slot = refl;
    owned = owned_now;
  }
    where
      values : AreValues (value_in slots) (new_cells l) ln.names m.store.env
      values i j at =
          let n = new_at l i j at in
          let w = get_within slots j (omega (arith, n.2, are.count)) in
          let x = slot_symbol are j n.2 in
          let v = slot_value (are.each j x.0 w.0 x.1 w.1) (le-ltb j (optional_of l) (omega (arith, n.1))) in
          let same : value_in slots j ≡ w.0 = value_is slots j w.0 w.1 in
          (omega (arith, n.2, small), subst (λ u. Shows ln.names m.store.env (sym_name j) u) (sym same) (shown.slots j w.0 w.1), subst (λ u. set_value u ≡ Some u) (sym (same ∙ v.1)) refl)

      t : Let p start m k (λ i j. Plain (Cell (length m.store.cells + i))) (new_cells l) (m.store.cells ++ new_ones l slots) ln (slot_lines (new_cells l) ln)
      t = all_new start (value_in slots) (new_cells l) ln m k ran room (new_apart l) values

      no_look : IsNone (new_cells l) (codes "~lookahead")
      no_look = is_none (new_cells l) (codes "~lookahead") (λ i. refl)

      owned_now : Owns l slots (own_slots l (length m.store.cells) slots) m.store.cells (new_ones l slots)
      owned_now = owns l slots m.store.cells (value_in slots) are.count (value_is slots)

      which : (j : ℕ) → ((l.made_optional ≡ false) ⊎ (j < optional_of l)) ⊎ ((l.made_optional ≡ true) × (optional_of l ≤ j))
      which j = by l.made_optional refl
        where
          by : (b : Bool) → l.made_optional ≡ b → ((l.made_optional ≡ false) ⊎ (j < optional_of l)) ⊎ ((l.made_optional ≡ true) × (optional_of l ≤ j))
          by false e = inl (inl e)
          by true e = ⊎_elim (λ (less : j < optional_of l). inl (inr less)) (λ (le : optional_of l ≤ j). inr (e, le)) (cases_lt j (optional_of l))

      old_one : (j : ℕ) (v : Val) → (l.made_optional ≡ false) ⊎ (j < optional_of l) → slice_get slots j ≡ Some v → Shows (slot_lines (new_cells l) ln).names t.env (sym_name j) v
      old_one j v old at =
          let less = slot_within are j v at in
          others_shown t (sym_name j) v
          (none_among (new_cells l) j (omega (arith, less, small)) (λ i x there.
          let n = new_at l i x there in
          (omega (arith, n.2, small), λ e. ⊎_elim (λ (f : l.made_optional ≡ false). true≢false (sym n.0 ∙ f)) (λ (below : j < optional_of l). omega (arith, below, n.1, e)) old)))
          (shown.slots j v at)

      slot_now : (j : ℕ) (v : Val) → slice_get (own_slots l (length m.store.cells) slots) j ≡ Some v → Shows (slot_lines (new_cells l) ln).names t.env (codes "~sym" ++ decimal j) v
      slot_now j v at = ⊎_elim
          (λ (old : (l.made_optional ≡ false) ⊎ (j < optional_of l)). old_one j v old (sym (owned_now.old j old) ∙ at))
          (λ (new : (l.made_optional ≡ true) × (optional_of l ≤ j)).
          let i : ℕ = j - optional_of l in
          let is : optional_of l + i ≡ j = omega (arith, new.1) in
          let w = get_within slots j (omega (arith, slice_get_within (own_slots l (length m.store.cells) slots) j v at, owned_now.as_many)) in
          let c = owned_now.made i j w.0 new.0 is w.1 in
          let same : v ≡ Plain (Cell (length m.store.cells + i)) = same_Some v (Plain (Cell (length m.store.cells + i))) (sym at ∙ c.0) in
          subst (λ u. Shows (slot_lines (new_cells l) ln).names t.env (sym_name j) u) (sym same) (t.shown i j (new_there l i j new.0 is (slot_within are j w.0 w.1))))
          (which j)
