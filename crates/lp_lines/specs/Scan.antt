-- Parts of lines: texts between separators, numbers, names. A text is the list of its bytes.
use Rattle.std.specs.Prelude.{ℕ, ◌+◌, ◌^◌, Bool, true, false, ◌==◌, ◌&&◌, ◌||◌, not, nat_lt, List, [], ◌∷◌, length, take, drop, map, position, Option, Some, None, if◌then◌else◌}
use Rattle.std.specs.List.{slice_split, list_all}
use Rattle.std.specs.Option.{option_map}
use Rattle.std.specs.Char.{is_ascii_digit, is_ascii_alphabetic, is_ascii_alphanumeric}
use Rattle.std.specs.Str.Parse.{digits_value}

-- what stands before the first separator, and what stands after it
abbrev pub split_at : List ℕ → ℕ → Option (List ℕ × List ℕ)
split_at text separator =
    option_map (λ i. (take i text, drop (i + 1) text)) (position (λ b. b == separator) text)

-- the texts between the separators
abbrev pub split_all : List ℕ → ℕ → List (List ℕ)
split_all text separator = slice_split (λ b. b == separator) text

-- the first of several bytes is `0`
abbrev pub has_leading_zero : List ℕ → Bool
has_leading_zero [] = false
has_leading_zero (d ∷ ds) = d == 48 && nat_lt 0 (length ds)

-- digits without a leading zero, at least one
unfoldable pub is_numeral : List ℕ → Bool
is_numeral text =
    not (length text == 0) && (list_all is_ascii_digit text && not (has_leading_zero text))

-- a number, if it fits 64 bits
abbrev pub fit : ℕ → Option ℕ
fit n = if nat_lt n (2 ^ 64) then Some n else None

-- the number of a text that passes a test
abbrev pub fit_if : Bool → ℕ → Option ℕ
fit_if true n = fit n
fit_if false n = None

-- the number that a text of digits without a leading zero stands for, if it fits 64 bits
unfoldable pub number_of : List ℕ → Option ℕ
number_of text = fit_if (is_numeral text) (digits_value 10 text)

-- ASCII letters, at least one
unfoldable pub is_name : List ℕ → Bool
is_name text = not (length text == 0) && list_all is_ascii_alphabetic text

-- a letter, a digit, `_`, `.`, `+` or `-`
unfoldable pub is_payload_byte : ℕ → Bool
is_payload_byte b = is_ascii_alphanumeric b || (b == 95 || (b == 46 || (b == 43 || b == 45)))

-- such bytes, at least one
unfoldable pub is_payload : List ℕ → Bool
is_payload text = not (length text == 0) && list_all is_payload_byte text

-- an element in front of others, where all are there
abbrev pub onto : {X : Type 0} → Option X → Option (List X) → Option (List X)
onto None xs = None
onto (Some x) xs = option_map (λ ys. x ∷ ys) xs

-- the elements, where each is there
abbrev pub all_some : {X : Type 0} → List (Option X) → Option (List X)
all_some [] = Some []
all_some (x ∷ xs) = onto x (all_some xs)
