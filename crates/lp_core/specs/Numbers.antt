-- Numbers of printed types.
use Rattle.std.specs.Prelude.{ℕ, ◌+◌, ◌-◌, ◌^◌, ℤ, pos, negsuc, ◌+ℤ◌, ◌-ℤ◌, neg_ℤ, int_lt, nat_le, nat_lt, ◌||◌, Bool, Option, Some, None, if◌then◌else◌}
use Rattle.std.specs.Option.{option_map, option_and_then}
use Rattle.lp_core.specs.declared.value.StateType.{StateType}
use Rattle.lp_core.specs.declared.value.StateType.TheVariants.{I8, I16, I32}
use Rattle.lp_core.specs.Datum.{Datum, Truth, Index, Number}
use Rattle.lp_core.specs.Val.{Val, Plain}
use Rattle.lp_core.specs.Reading.{datum}

-- the least and the greatest number of a state type
abbrev pub lowest : StateType → ℤ
lowest I8 = negsuc 127
lowest I16 = negsuc 32767
lowest I32 = negsuc 2147483647

abbrev pub highest : StateType → ℤ
highest I8 = pos 127
highest I16 = pos 32767
highest I32 = pos 2147483647

abbrev pub fitting : StateType → ℤ → Option ℤ
fitting kind n = if int_lt n (lowest kind) || int_lt (highest kind) n then None else Some n

abbrev pub number : StateType → ℤ → Val
number kind n = Plain (Number kind n)

abbrev pub index : ℕ → Val
index n = Plain (Index n)

abbrev pub truth : Bool → Val
truth b = Plain (Truth b)

-- a number of a state type, if it is in the range of the type
abbrev pub typed : StateType → ℤ → Option Val
typed kind n = option_map (number kind) (fitting kind n)

-- a `usize`, if it is one
abbrev pub index_within : ℕ → Option Val
index_within n = if nat_lt n (2 ^ 64) then Some (index n) else None

-- a difference of two `usize`
abbrev pub index_less : ℕ → ℕ → Option Val
index_less m n = if nat_le n m then Some (index (m - n)) else None

abbrev pub number_in : Datum → Option ℤ
number_in (Number kind n) = Some n
number_in (Index n) = Some (pos n)
number_in _ = None

-- a number, of whichever type
abbrev pub number_of : Val → Option ℤ
number_of v = option_and_then number_in (datum v)

-- `x as usize`
abbrev pub cast_in : Datum → Option ℕ
cast_in (Number kind (pos n)) = Some n
cast_in (Index n) = Some n
cast_in _ = None

abbrev pub as_index : Val → Option Val
as_index v = option_map index (option_and_then cast_in (datum v))

-- `x + 1`, `x - 1` and `-x`
abbrev pub successor_in : Datum → Option Val
successor_in (Number kind n) = typed kind (n +ℤ pos 1)
successor_in (Index n) = index_within (n + 1)
successor_in _ = None

abbrev pub predecessor_in : Datum → Option Val
predecessor_in (Number kind n) = typed kind (n -ℤ pos 1)
predecessor_in (Index n) = index_less n 1
predecessor_in _ = None

abbrev pub negated_in : Datum → Option Val
negated_in (Number kind n) = typed kind (neg_ℤ n)
negated_in _ = None

abbrev pub successor : Val → Option Val
successor v = option_and_then successor_in (datum v)

abbrev pub predecessor : Val → Option Val
predecessor v = option_and_then predecessor_in (datum v)

abbrev pub negated : Val → Option Val
negated v = option_and_then negated_in (datum v)
