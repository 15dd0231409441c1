-- What operations do to one cell: the value and the cell afterwards, or nothing.
use Rattle.std.specs.Prelude.{ℕ, ◌-◌, ℤ, List, [], ◌∷◌, ◌++◌, length, take, Option, Some, None, is_none, slice_get}
use Rattle.std.specs.Option.{option_map, option_and_then}
use Rattle.lp_core.specs.declared.expr.Op.{Op}
use Rattle.lp_core.specs.declared.expr.Op.TheVariants as op
use Rattle.lp_core.specs.Val.{Val}
use Rattle.lp_core.specs.Reading.{spanned_val, option_val, state_of, spanned_of}
use Rattle.lp_core.specs.Numbers.{index, truth, typed}
use Rattle.lp_core.specs.Store.{Held, Slot, States, Symbols}
use Rattle.lp_core.specs.Effect.{unit}

abbrev pub last_in : {A : Type 0} → List A → Option A
last_in l = slice_get l (length l - 1)

abbrev pub without_last : {A : Type 0} → List A → List A
without_last l = take (length l - 1) l

abbrev pub Change : Type 0
Change = Option (Val × Held)

-- the length of a list
abbrev pub length_of : Held → Option ℕ
length_of (Slot slot) = None
length_of (States states) = Some (length states)
length_of (Symbols symbols) = Some (length symbols)

-- the last symbol as an option, off the list
abbrev pub popped : Held → Change
popped (Symbols l) = Some (option_val (option_map spanned_val (last_in l)), Symbols (without_last l))
popped _ = None

-- the last symbol as an option, which stays
abbrev pub last_of : Held → Option Val
last_of (Symbols l) = Some (option_val (option_map spanned_val (last_in l)))
last_of _ = None

abbrev pub states_in : Held → Option (List ℤ)
states_in (States l) = Some l
states_in _ = None

-- the last state of the list, and a state by its index
abbrev pub top_of : Held → Option ℤ
top_of c = option_and_then last_in (states_in c)

abbrev pub state_at : ℕ → Held → Option ℤ
state_at i c = option_and_then (λ l. slice_get l i) (states_in c)

-- the list of states without its last, if there is one, and the first so many states
abbrev pub shortened : Held → Option Held
shortened c = option_map (λ l. States (without_last l)) (states_in c)

abbrev pub cut_to : ℕ → Held → Option Held
cut_to n c = option_map (λ l. States (take n l)) (states_in c)

-- what an option holds, which is empty afterwards
abbrev pub taken_out : Held → Change
taken_out (Slot (Some v)) = Some (v, Slot None)
taken_out _ = None

abbrev pub read_in : Held → Option Val
read_in (Slot (Some v)) = Some v
read_in _ = None

abbrev pub emptiness : Held → Option Val
emptiness (Slot slot) = Some (truth (is_none slot))
emptiness _ = None

-- one more on a list: a state, or a symbol with its span
abbrev pub pushed : Val → Held → Option Held
pushed v (Slot slot) = None
pushed v (States l) = option_map (λ n. States (l ++ n ∷ [])) (state_of v)
pushed v (Symbols l) = option_map (λ x. Symbols (l ++ x ∷ [])) (spanned_of v)

-- a value, where the cell stays as it is, and `()` where it changes
abbrev pub reads : Held → Option Val → Change
reads c o = option_map (λ v. (v, c)) o

abbrev pub changes : Option Held → Change
changes o = option_map (λ c. (unit, c)) o

-- what an operation on a reference to a cell does to the cell
abbrev pub cell_change : Op → Held → Change
cell_change op.Length c = reads c (option_map index (length_of c))
cell_change op.Pop c = popped c
cell_change op.Last c = reads c (last_of c)
cell_change (op.Top kind) c = reads c (option_and_then (typed kind) (top_of c))
cell_change op.Shorten c = changes (shortened c)
cell_change op.TakeOut c = taken_out c
cell_change op.ReadIn c = reads c (read_in c)
cell_change op.IsEmpty c = reads c (emptiness c)
cell_change _ c = None
