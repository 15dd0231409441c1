-- The numbers of the lines of a text, from 1.
use Rattle.std.specs.Prelude.{ℕ, ◌+◌, ◌-◌, ◌^◌, ◌==◌, ◌||◌, Bool, if◌then◌else◌, min, nat_eq, nat_lt, List, length, take, codes}
use Rattle.std.specs.List.{ends_with}
use Rattle.lp_spelling.specs.Counting.{feeds}

-- the number of a line before which so many end, from 1; where it would be greater, the greatest of 64 bits
abbrev pub line_number : ℕ → ℕ
line_number ended = min (ended + 1) (2 ^ 64 - 1)

-- a text that is empty, or ends with a line feed
abbrev pub is_ended : List ℕ → Bool
is_ended text = (length text == 0) || ends_with nat_eq text (codes "\n")

-- one past the number of the last line
abbrev pub past_last : List ℕ → ℕ
past_last text = if is_ended text then line_number (feeds text) else line_number (line_number (feeds text))

-- the number of the line at a place; where the text ends there, one past that of the last line
abbrev pub number_at : ℕ → List ℕ → ℕ
number_at place text = if nat_lt place (length text) then line_number (feeds (take place text)) else past_last text
