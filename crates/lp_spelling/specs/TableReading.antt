-- Reading the entries of a table: blanks, line ends and comments don't count, and a `]` at the front of a line ends it.
use Rattle.std.specs.Prelude.{◌≡◌, ℕ, ℤ, pos, neg_ℤ, zero, suc, ◌+◌, ◌^◌, Bool, true, false, not, ◌&&◌, ◌==◌, if◌then◌else◌, nat_lt, nat_le, nat_eq, List, [], ◌∷◌, length, take, drop, Option, Some, None, codes}
use Rattle.std.specs.List.{prefix_len, starts_with}
use Rattle.std.specs.Char.{is_whitespace, len_utf8}
use Rattle.std.specs.Str.{bytes_eq, chars, IsCharBoundary}
use Rattle.std.specs.Str.Parse.{digits_value}
use Rattle.lp_spelling.specs.declared.rows.RowStep.{RowStep}
use Rattle.lp_spelling.specs.declared.rows.RowStep.TheVariants as step
use Rattle.lp_spelling.specs.Counting.{line_len}
use Rattle.lp_spelling.specs.HoleEnds.{is_digit}
use Rattle.lp_spelling.specs.Fillings.{is_number}
use Rattle.lp_spelling.specs.LineReading.{◌>>=◌, after}

-- a number of 32 bits: the decimal digits of one below 2^31, or `-` and those of one up to 2^31 and not 0
abbrev pub negative_of : List ℕ → Option ℤ
negative_of digits =
    if is_number digits && (not (bytes_eq digits (codes "0")) && nat_le (digits_value 10 digits) (2 ^ 31))
    then Some (neg_ℤ (pos (digits_value 10 digits)))
    else None

abbrev pub positive_of : List ℕ → Option ℤ
positive_of digits = if is_number digits && nat_lt (digits_value 10 digits) (2 ^ 31) then Some (pos (digits_value 10 digits)) else None

unfoldable pub number_of : List ℕ → Option ℤ
number_of text = if starts_with nat_eq text (codes "-") then negative_of (drop 1 text) else positive_of text

-- where the sign and the digits in front end
abbrev pub sign_len : List ℕ → ℕ
sign_len text = if starts_with nat_eq text (codes "-") then 1 else 0

abbrev pub number_end : List ℕ → ℕ
number_end text = sign_len text + prefix_len is_digit (drop (sign_len text) text)

-- a number and `,` in front, and the text behind them
unfoldable pub entry_in : List ℕ → Option (ℤ × List ℕ)
entry_in text =
    number_of (take (number_end text) text) >>= λ z.
    after (codes ",") (drop (number_end text) text) >>= λ rest.
    Some (z, rest)

-- how many bytes a blank in front has
abbrev pub char_blank : ℕ → ℕ
char_blank c = if is_whitespace c then len_utf8 c else 0

abbrev pub blank_of : List ℕ → ℕ
blank_of [] = 0
blank_of (c ∷ cs) = char_blank c

abbrev pub blank_len : List ℕ → ℕ
blank_len text = blank_of (chars text)

-- what stands in front: the end of a line, something else that doesn't count, the end of the table, an entry, or nothing of these
pub data Front : Type 0 where
  feed : List ℕ → Front
  skip : List ℕ → Front
  ends : Front
  found_entry : ℤ → List ℕ → Front
  wrong : Front

abbrev pub entry_front : Option (ℤ × List ℕ) → Front
entry_front None = wrong
entry_front (Some e) = found_entry e.0 e.1

abbrev pub front_after_blank : List ℕ → Front
front_after_blank text = if nat_lt 0 (blank_len text) then skip (drop (blank_len text) text) else entry_front (entry_in text)

unfoldable pub front_of : List ℕ → Front
front_of [] = wrong
front_of (b ∷ t) =
    if b == 10
    then feed t
    else (if starts_with nat_eq (b ∷ t) (codes "//")
    then skip (drop (line_len (b ∷ t)) (b ∷ t))
    else (if b == 93 then ends else front_after_blank (b ∷ t)))

-- the numbers of a table, and the text from its end on
abbrev pub Table : Type 0
Table = List ℤ × List ℕ

abbrev pub with_number : ℤ → Table → Table
with_number z table = (z ∷ table.0, table.1)

abbrev pub goes_on_after : (Bool → List ℕ → Option Table) → Bool → List ℕ → Front → Option Table
goes_on_after go at_front text (feed rest) = go true rest
goes_on_after go at_front text (skip rest) = go at_front rest
goes_on_after go at_front text ends = if at_front then Some ([], text) else None
goes_on_after go at_front text (found_entry z rest) = go false rest >>= λ table. Some (with_number z table)
goes_on_after go at_front text wrong = None

-- in at most n steps, where nothing or something stands before on the line
unfoldable pub entries_within : ℕ → Bool → List ℕ → Option Table
entries_within zero at_front text = None
entries_within (suc n) at_front text = goes_on_after (entries_within n) at_front text (front_of text)

-- the entries in front of a text
unfoldable pub entries : List ℕ → Option Table
entries text = entries_within (length text) true text

-- the entries in front of a text, where nothing or something stands before it on its line, go on up to a place at which
-- nothing of a table stands, or a `]` that isn't at the front of its line
pub data IsBroken : Bool → List ℕ → List ℕ → Type 0 where
  broken_here : (at_front : Bool) (text : List ℕ) → front_of text ≡ wrong → IsBroken at_front text text
  broken_end : (text : List ℕ) → front_of text ≡ ends → IsBroken false text text
  broken_feed : (at_front : Bool) (text next rest : List ℕ) → front_of text ≡ feed next → IsBroken true next rest → IsBroken at_front text rest
  broken_skip : (at_front : Bool) (text next rest : List ℕ) → front_of text ≡ skip next → IsBroken at_front next rest → IsBroken at_front text rest
  broken_entry : (at_front : Bool) (z : ℤ) (text next rest : List ℕ) → front_of text ≡ found_entry z next → IsBroken false next rest → IsBroken at_front text rest

-- what the code finds at a place behind blanks
abbrev pub IsEntryAt : List ℕ → ℕ → RowStep → Type 0
IsEntryAt text at (step.Entry z next) = (entry_in (drop at text) ≡ Some (z, drop next text)) × IsCharBoundary text next
IsEntryAt text at step.Wrong = entry_in (drop at text) ≡ None
IsEntryAt text at _ = ⊥

-- what the code finds at a place
abbrev pub IsFront : List ℕ → ℕ → RowStep → Type 0
IsFront text at (step.Entry z next) = (front_of (drop at text) ≡ found_entry z (drop next text)) × IsCharBoundary text next
IsFront text at (step.Line next) = (front_of (drop at text) ≡ feed (drop next text)) × IsCharBoundary text next
IsFront text at (step.Skip next) = (front_of (drop at text) ≡ skip (drop next text)) × IsCharBoundary text next
IsFront text at step.End = front_of (drop at text) ≡ ends
IsFront text at step.Wrong = front_of (drop at text) ≡ wrong

-- what the code answers of a table
abbrev pub ReadsTable : List ℕ → List ℤ → List ℕ → Bool → Type 0
ReadsTable text numbers rest true = entries text ≡ Some (numbers, rest)
ReadsTable text numbers rest false = entries text ≡ None
