-- The slots of a frame of recursive ascent: what they hold of the machine's symbols, and what is taken from them.
use Rattle.std.specs.Prelude.{◌≡◌, ◌⊎◌, ℕ, ◌+◌, ◌-◌, ◌<◌, ◌≤◌, nat_lt, Bool, true, false, List, ◌++◌, map, length, take, Some, None, slice_get, if◌then◌else◌}
use Rattle.std.specs.List.{range_with_len}
use Rattle.lp_driver.specs.Values.{Spanned, Value}
use Rattle.lp_machine.specs.ReductionSpan.{popped}
use Rattle.lp_core.specs.Datum.{Cell}
use Rattle.lp_core.specs.Store.{Held, Slot}
use Rattle.lp_core.specs.Val.{Val, Plain}
use Rattle.lp_question_laws.specs.Tables.Acts.{symbol_val}
use Rattle.lp_ascent.specs.Slots.{Layout, count_of, optional_of}

-- a slot is handed over as a cell
abbrev pub comes_as_cell : Layout → ℕ → Bool
comes_as_cell l j = nat_lt j (optional_of l)

-- the slot isn't one of the last d
abbrev pub is_before : Layout → ℕ → ℕ → Bool
is_before l d j = nat_lt (j + d) (count_of l)

-- what stands in the slot of a symbol, which is a cell or not, and which has it still or not: what by value was handed over can't be taken away
pub data IsSlot (cells : List Held) (x : Spanned Value) : Bool → Bool → Val → Type 0 where
  by_value : IsSlot cells x false true (symbol_val x)
  full : (n : ℕ) → slice_get cells n ≡ Some (Slot (Some (symbol_val x))) → IsSlot cells x true true (Plain (Cell n))
  taken : (n : ℕ) → slice_get cells n ≡ Some (Slot None) → IsSlot cells x true false (Plain (Cell n))

-- these are the slots of the top symbols, where the last d are taken
pub record AreSlots (l : Layout) (cell : ℕ → Bool) (d : ℕ) (triples : List (Spanned Value)) (cells : List Held) (slots : List Val) : Type 0 where
  pub count : length slots ≡ count_of l
  pub fits : count_of l ≤ length triples
  pub each : (j : ℕ) (x : Spanned Value) (v : Val) → slice_get (popped (count_of l) triples) j ≡ Some x → slice_get slots j ≡ Some v → IsSlot cells x (cell j) (is_before l d j) v

-- the slot of a number is this cell
abbrev pub IsCell : List Val → ℕ → ℕ → Type 0
IsCell slots j n = slice_get slots j ≡ Some (Plain (Cell n))

-- no two slots are one cell
abbrev pub AreApart : List Val → Type 0
AreApart slots = (i j n : ℕ) → IsCell slots i n → IsCell slots j n → i ≡ j

-- of these cells exactly those of the last d slots were emptied
pub record Emptied (l : Layout) (d : ℕ) (slots : List Val) (before after : List Held) : Type 0 where
  pub as_many : length after ≡ length before
  pub emptied : (j n : ℕ) → count_of l ≤ j + d → IsCell slots j n → slice_get after n ≡ Some (Slot None)
  pub kept : (n : ℕ) → ((j : ℕ) → IsCell slots j n → j + d < count_of l) → slice_get after n ≡ slice_get before n

-- the slots inside a function, with the cells that it makes: those that come by value are put into new cells, in order, where they are made optional; the others are as they came
pub record Owns (l : Layout) (slots own : List Val) (before new : List Held) : Type 0 where
  pub as_many : length own ≡ length slots
  pub old : (j : ℕ) → (l.made_optional ≡ false) ⊎ (j < optional_of l) → slice_get own j ≡ slice_get slots j
  pub made : (i j : ℕ) (v : Val) → l.made_optional ≡ true → optional_of l + i ≡ j → slice_get slots j ≡ Some v → IsCell own j (length before + i) × (slice_get new i ≡ Some (Slot (Some v)))

-- slots inside a function that is called over so many cells, by these alone: those that came as cells are these, and the others are new
pub record AreOwn (n : ℕ) (slots own : List Val) : Type 0 where
  pub old : (j m : ℕ) → IsCell slots j m → m < n
  pub same : (j m : ℕ) → IsCell slots j m → IsCell own j m
  pub new : (j m : ℕ) → m < n → IsCell own j m → IsCell slots j m

-- the slots inside a function that is called over so many cells, where its new cells get the next numbers
abbrev pub own_slots : Layout → ℕ → List Val → List Val
own_slots l n slots = if l.made_optional then take (optional_of l) slots ++ map (λ i. Plain (Cell (n + i))) (range_with_len 0 (count_of l - optional_of l)) else slots
