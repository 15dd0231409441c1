-- The patterns of tokens: captured names, and forms with `_` for these names.
use Rattle.std.specs.Prelude.{ℕ, zero, suc, List, [], ◌∷◌, ◌++◌, length, drop, codes, Option, Some, None, if◌then◌else◌}
use Rattle.std.specs.Char.{is_ascii_digit}
use Rattle.lp_maker.specs.Numbers.{number_of}
use Rattle.lp_maker.specs.Texts.{after_front, cut_at, pieces, without_end}

-- how many digits stand at the front
abbrev pub digit_count : List ℕ → ℕ
digit_count [] = 0
digit_count (c ∷ cs) = if is_ascii_digit c then suc (digit_count cs) else 0

abbrev pub after_digits : List ℕ → List ℕ
after_digits s = drop (digit_count s) s

-- the texts around a name, with `_` for the name and the digits after it
abbrev pub form_around : (List ℕ → List ℕ) → List ℕ → Option (List ℕ × List ℕ) → List ℕ
form_around form s None = s
form_around form s (Some cut) = (cut.0 ++ codes "_") ++ form (after_digits cut.1)

abbrev pub form_within : ℕ → List ℕ → List ℕ → List ℕ
form_within zero name s = s
form_within (suc n) name s = form_around (λ t. form_within n name t) s (cut_at name s)

-- a pattern's text with `_` for the names of captures
abbrev pub form_of : List ℕ → List ℕ → List ℕ
form_of prefix pattern = form_within (length pattern) (prefix ++ codes "tok") pattern

abbrev pub number_after : Option (List ℕ) → Option ℕ
number_after None = None
number_after (Some rest) = number_of rest

abbrev pub capture_after : Option (List ℕ) → Option ℕ
capture_after None = None
capture_after (Some rest) = number_after (after_front (codes "tok") rest)

-- the number of a captured name: j of `tok` and j after the prefix
abbrev pub capture_of : List ℕ → List ℕ → Option ℕ
capture_of prefix name = capture_after (after_front prefix name)

abbrev pub inner_of : List ℕ → Option (List ℕ) → List ℕ
inner_of text None = text
inner_of text (Some inner) = without_end 41 inner

-- the names of a capture, or of several in parentheses
abbrev pub captures_of : List ℕ → List (List ℕ)
captures_of text = pieces (codes ", ") (inner_of text (after_front (codes "(") text))
