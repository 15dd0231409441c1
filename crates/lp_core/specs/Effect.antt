-- How an operation ends, and what it does to slots and cells.
use Rattle.std.specs.Prelude.{ℕ, ◌+◌, Bool, true, false, List, [], ◌∷◌, ◌++◌, length, Option, Some, None, slice_get, slice_set}
use Rattle.std.specs.Option.{option_and_then}
use Rattle.lp_core.specs.declared.value.Tag.TheVariants as tag
use Rattle.lp_core.specs.declared.world.Done.{Done}
use Rattle.lp_core.specs.declared.world.Done.TheVariants as d
use Rattle.lp_core.specs.Datum.{Datum, Unset, Cell}
use Rattle.lp_core.specs.Val.{Val, Plain}
use Rattle.lp_core.specs.Reading.{empty, datum}
use Rattle.lp_core.specs.Store.{Store, Held}

-- a value, a value that the call returns, or no meaning
pub data Effect : Type 0 where
  Gave : (v : Val) (s : Store) → Effect
  Returned : (v : Val) (s : Store) → Effect
  Failed : Effect

-- what the code answers, over the store that it leaves
abbrev pub effect : Done → Store → Effect
effect (d.Valued v) s = Gave v s
effect (d.Returned v) s = Returned v s
effect d.Stuck s = Failed

-- `()`
abbrev pub unit : Val
unit = empty tag.Tuple

-- a value, if there is one
abbrev pub gave : Option Val → Store → Effect
gave None s = Failed
gave (Some v) s = Gave v s

-- `()`, where something could be done
abbrev pub did : Bool → Store → Effect
did true s = Gave unit s
did false s = Failed

abbrev pub stored : Option Store → Effect
stored None = Failed
stored (Some s) = Gave unit s

-- a slot after a write
abbrev pub with_slot : ℕ → Val → Store → Store
with_slot x v s = record s { env = slice_set s.env x v }

abbrev pub write_over : ℕ → Val → Store → Option Val → Option Store
write_over x v s None = None
write_over x v s (Some old) = Some (with_slot x v s)

-- writes to a slot, if there is one
abbrev pub written : ℕ → Val → Store → Option Store
written x v s = write_over x v s (slice_get s.env x)

-- the values in slots, from this one on
abbrev pub all_written : ℕ → List Val → Store → Option Store
all_written x [] s = Some s
all_written x (v ∷ vs) s = option_and_then (all_written (x + 1) vs) (written x v s)

-- what has a value
abbrev pub set_in : Val → Option Datum → Option Val
set_in v (Some Unset) = None
set_in v _ = Some v

abbrev pub set_value : Val → Option Val
set_value v = set_in v (datum v)

-- a cell after a change
abbrev pub with_cell : ℕ → Held → Store → Store
with_cell n c s = record s { cells = slice_set s.cells n c }

-- a reference to a new cell
abbrev pub new_cell : Held → Store → Effect
new_cell c s = Gave (Plain (Cell (length s.cells))) (record s { cells = s.cells ++ c ∷ [] })

abbrev pub new_cell_of : Option Held → Store → Effect
new_cell_of None s = Failed
new_cell_of (Some c) s = new_cell c s
