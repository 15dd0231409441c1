-- What the steps over a text answer.
use Rattle.std.specs.Prelude.{◌≡◌, ℕ, ◌+◌, ◌<◌, ◌≤◌, false, true, List, length, drop, Option, Some, None, slice_index}
use Rattle.lp_texts.specs.Quotes.{piece, Quote, Unended, Single}
use Rattle.lp_texts.specs.OneLine.{ends_line}
use Rattle.lp_texts.specs.declared.quotes.Found.{Found}
use Rattle.lp_texts.specs.declared.quotes.Found.TheVariants as found

-- what follows an end, or none, is what is left at the place that is answered
abbrev pub EndsAt : List ℕ → ℕ → Option (List ℕ) → Option ℕ → Type 0
EndsAt text from rest None = rest ≡ None
EndsAt text from rest (Some end) = (rest ≡ Some (drop end text)) × (from < end) × (end ≤ length text)

-- what is found at a place is the piece there
abbrev pub IsPieceAt : List ℕ → ℕ → Found → Type 0
IsPieceAt text at (found.Quote end) = (piece (drop at text) ≡ Quote (drop end text)) × (at < end) × (end ≤ length text)
IsPieceAt text at found.Unended = piece (drop at text) ≡ Unended
IsPieceAt text at found.Single = piece (drop at text) ≡ Single (slice_index text at) (drop (at + 1) text)

-- no line ends between two places
abbrev pub NoLineEnd : List ℕ → ℕ → ℕ → Type 0
NoLineEnd text from end = (j : ℕ) → from ≤ j → j < end → ends_line (slice_index text j) ≡ false

-- the first line end between two places
abbrev pub IsFirstLineEnd : List ℕ → ℕ → ℕ → Option ℕ → Type 0
IsFirstLineEnd text from end None = NoLineEnd text from end
IsFirstLineEnd text from end (Some i) = (from ≤ i) × (i < end) × (ends_line (slice_index text i) ≡ true) × NoLineEnd text from i

-- a quote that ends at a place, or has no end
abbrev pub found_of : Option ℕ → Found
found_of None = found.Unended
found_of (Some end) = found.Quote end
