-- The number that a part tells.
use Rattle.std.specs.Prelude.{ℕ, ◌^◌, nat_lt, ◌&&◌, Bool, true, List, [], ◌∷◌, length, Option, Some, None, if◌then◌else◌}
use Rattle.std.specs.Char.{digit_value}
use Rattle.std.specs.Str.Parse.{digits_value, without_leading_plus}

abbrev pub are_digits : List ℕ → Bool
are_digits [] = true
are_digits (c ∷ cs) = nat_lt (digit_value c) 10 && are_digits cs

-- digits alone, at least one
abbrev pub is_numeral : List ℕ → Bool
is_numeral ds = nat_lt 0 (length ds) && are_digits ds

-- the number of digits, if it is a `usize`
abbrev pub number_of_digits : List ℕ → Option ℕ
number_of_digits ds = if is_numeral ds && nat_lt (digits_value 10 ds) (2 ^ 64) then Some (digits_value 10 ds) else None

-- a printed `usize`
abbrev pub printed_number : List ℕ → Option ℕ
printed_number text = number_of_digits (without_leading_plus text)

-- the number in the first hole of a part
abbrev pub number_told : List (List ℕ) → Option ℕ
number_told [] = None
number_told (text ∷ texts) = printed_number text
