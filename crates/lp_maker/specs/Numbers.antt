-- Printed numbers, as Rust reads them: a sign, if there is one, and decimal digits.
use Rattle.std.specs.Prelude.{ℕ, ◌^◌, nat_lt, ◌&&◌, Bool, true, List, [], ◌∷◌, length, codes, ℤ, pos, negsuc, Option, Some, None, if◌then◌else◌}
use Rattle.std.specs.Char.{digit_value}
use Rattle.std.specs.Str.Parse.{digits_value, signed_digits_value, without_leading_plus, without_leading_sign}
use Rattle.lp_maker.specs.Texts.{cut_at}

abbrev pub are_digits : List ℕ → Bool
are_digits [] = true
are_digits (c ∷ cs) = nat_lt (digit_value c) 10 && are_digits cs

-- digits alone, at least one
abbrev pub is_numeral : List ℕ → Bool
is_numeral ds = nat_lt 0 (length ds) && are_digits ds

abbrev pub some_if : {X : Type 0} → Bool → X → Option X
some_if test x = if test then Some x else None

-- the number of digits, if it is a `usize`
abbrev pub index_of_digits : List ℕ → Option ℕ
index_of_digits ds = some_if (is_numeral ds && nat_lt (digits_value 10 ds) (2 ^ 64)) (digits_value 10 ds)

-- a printed `usize`
abbrev pub number_of : List ℕ → Option ℕ
number_of s = index_of_digits (without_leading_plus s)

-- whether a number is an `i64`
abbrev pub is_wide : ℤ → Bool
is_wide (pos n) = nat_lt n (2 ^ 63)
is_wide (negsuc n) = nat_lt n (2 ^ 63)

-- a printed `i64`
abbrev pub wide_number_of : List ℕ → Option ℤ
wide_number_of s = some_if (is_numeral (without_leading_sign s) && is_wide (signed_digits_value 10 s)) (signed_digits_value 10 s)

abbrev pub pair_of : Option ℤ → Option ℤ → Option (ℤ × ℤ)
pair_of None high = None
pair_of (Some low) None = None
pair_of (Some low) (Some high) = Some (low, high)

abbrev pub range_in : List ℕ → Option (List ℕ × List ℕ) → Option (ℤ × ℤ)
range_in s None = pair_of (wide_number_of s) (wide_number_of s)
range_in s (Some cut) = pair_of (wide_number_of cut.0) (wide_number_of cut.1)

-- `a` and `b` of `a..=b`, or a number twice
abbrev pub range_of : List ℕ → Option (ℤ × ℤ)
range_of s = range_in s (cut_at (codes "..=") s)
